-- The rows passed have keys below k.
use Rattle.rows.specs.Table.{rows_of}
use Rattle.rows.specs.Keys.{key_of}
use Rattle.row_search.specs.ByKey.{Bracket}
use Rattle.extensions.proofs.next_bound.Given as goal

abbrev pub invariant-loop-to : goal.invariant-loop-to
invariant-loop-to l = Bracket l.table (key_of l.k.high l.k.low) l.to (rows_of l.table)
