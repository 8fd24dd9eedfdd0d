-- Whichever row has the key, it is the only one.
use Rattle.std.proofs.Common.{◌≡◌, ℕ, Bool, true, false, Option, Some, refl, sym, ◌∙◌, arith}
use Rattle.std.specs.Bool.{then_some}
use Rattle.std.proofs.lemmas.Bool.Decides.{nat_tests}
use Rattle.rows.specs.Table.{rows_of}
use Rattle.rows.specs.Keys.{row_key, key_of}
use Rattle.row_search.specs.Search.{is_at}
use Rattle.row_search.proofs.ByKey.{find-key_hit}
use Rattle.row_search.proofs.found_near.Goals as goal

is-hit : (b : Bool) (i : ℕ) (f : Option ℕ) → f ≡ then_some b i → is_at f ≡ true → (b ≡ true) × (f ≡ Some i)
is-hit true i f e a = (refl, e)
is-hit false i f e a = cc

pub returns-then-not-key_less : goal.returns-then-not-key_less
unfolding rows_of
returns-then-not-key_less c = λ a.
    let t = c.args.part.now in
    let k = key_of c.args.k.high c.args.k.low in
    let h = is-hit c.key_equal.result c.loop-row.row c.then_some.result c.then_some.ensures a in
    let same : row_key t c.loop-row.row ≡ k = grind (arith, nat_tests) in
    h.1 ∙ sym (find-key_hit t k (rows_of t) c.loop-row.row c.requires (omega arith) same)
