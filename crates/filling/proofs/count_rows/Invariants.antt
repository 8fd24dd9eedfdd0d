-- As many rows of the filled list as were counted come before the next one, and their p is in range if `fits` says so.
use Rattle.std.proofs.Common.{◌-◌}
use Rattle.rows.specs.Table.{rows_of}
use Rattle.filled_list.specs.Filled.{filled_table}
use Rattle.filling.proofs.Walk.{Counting}
use Rattle.filling.proofs.count_rows.Given as goal

abbrev pub invariant-loop-next : goal.invariant-loop-next
invariant-loop-next l = Counting l.table l.n l.rows l.next l.fits

abbrev pub decreases-loop-next : goal.decreases-loop-next
decreases-loop-next l = rows_of (filled_table l.table) - l.rows
