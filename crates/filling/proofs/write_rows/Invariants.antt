-- The rows ahead of the next one are written, and the rest of the table is as it was.
use Rattle.std.proofs.Common.{◌-◌, ◌*◌}
use Rattle.rows.specs.Table.{rows_of}
use Rattle.filled_list.specs.Filled.{filled_table}
use Rattle.filling.proofs.Walk.{Under}
use Rattle.filling.proofs.write_rows.Given as goal

abbrev pub invariant-loop-next : goal.invariant-loop-next
invariant-loop-next l = Under l.table l.initial.filled l.n l.next l.start l.filled

abbrev pub decreases-loop-next : goal.decreases-loop-next
decreases-loop-next l = 8 * rows_of (filled_table l.table) - l.start
