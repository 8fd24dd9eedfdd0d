-- The first row whose key is not below k ends the loop.
use Rattle.std.proofs.Common.{◌≤◌, arith}
use Rattle.std.proofs.lemmas.Bool.Decides.{nat_tests}
use Rattle.rows.specs.Table.{rows_of}
use Rattle.rows.specs.Keys.{row_key, key_of}
use Rattle.row_search.proofs.ByKey.{bracket-down}
use Rattle.extensions.proofs.next_bound.Goals as goal

pub returns-then-not-key_less : goal.returns-then-not-key_less
unfolding rows_of
returns-then-not-key_less c =
    let h : key_of c.args.k.high c.args.k.low ≤ row_key c.args.table.now c.loop-to.to = grind (arith, nat_tests) in
    bracket-down _ c.requires.0 _ _ _ _ c.loop-to.invariant (omega arith) (omega arith) h
