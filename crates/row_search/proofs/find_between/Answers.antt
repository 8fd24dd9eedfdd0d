-- The last row of the window that is not above k is the row searched for, or there is none.
use Rattle.std.proofs.Common.{◌≡◌, ap, sym, eqb, ◌∙◌, arith}
use Rattle.std.specs.Bool.{then_some}
use Rattle.std.proofs.lemmas.Bool.Decides.{nat_tests}
use Rattle.rows.specs.Keys.{row_key, key_of}
use Rattle.row_search.proofs.ByKey.{window_empty, window_one}
use Rattle.row_search.proofs.find_between.Goals as goal

pub returns-then-rows : goal.returns-then-rows
returns-then-rows c = sym (window_empty _ _ _ _ c.requires.1 c.if-rows.true)

pub returns : goal.returns
returns c =
    let t = c.args.table.now in
    let k = key_of c.args.k.high c.args.k.low in
    let i = c.last_not_above-i.result in
    let same : c.key_equal.result ≡ eqb (row_key t i) k = grind (arith, nat_tests) in
    c.then_some.ensures ∙ ap (λ b. then_some b i) same ∙ sym (window_one t k i c.requires.0 c.last_not_above-i.ensures)
