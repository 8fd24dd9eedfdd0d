-- The row before `near` is below k.
use Rattle.std.proofs.Common.{◌<◌, ◌≡◌, ◌+◌, ◌-◌, subst, arith}
use Rattle.std.proofs.lemmas.Bool.Decides.{nat_tests}
use Rattle.rows.specs.Table.{rows_of}
use Rattle.rows.specs.Keys.{row_key, key_of}
use Rattle.row_search.specs.ByKey.{Bracket}
use Rattle.row_search.proofs.ByKey.{bracket-start, bracket-up}
use Rattle.row_search.proofs.search_start.Goals as goal

pub returns-then-key_less : goal.returns-then-key_less
unfolding rows_of
returns-then-key_less c =
    let t = c.args.table.now in
    let k = key_of c.args.k.high c.args.k.low in
    let e : c.args.near - 1 + 1 ≡ c.args.near = omega arith in
    let below : row_key t (c.args.near - 1) < k = grind (arith, nat_tests) in
    subst (λ from. Bracket t k from (rows_of t)) e (bracket-up t c.requires k 0 (rows_of t) (c.args.near - 1) (bracket-start t k) (omega arith) below)
