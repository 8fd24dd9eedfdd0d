-- The rows that are left are rows of the part.
use Rattle.std.proofs.Common.{◌+◌, ◌≤◌, ◌<◌}
use Rattle.rows.specs.Table.{rows_of}
use Rattle.row_search.proofs.quartered.Given as goal

abbrev pub invariant-loop-size : goal.invariant-loop-size
invariant-loop-size l = 0 < l.size → l.from + l.size ≤ rows_of l.part

abbrev pub decreases-loop-size : goal.decreases-loop-size
decreases-loop-size l = l.size
