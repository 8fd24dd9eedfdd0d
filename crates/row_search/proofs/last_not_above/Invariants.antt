-- The rows before `from` are below k, and those behind the next `size` are above it.
use Rattle.std.proofs.Common.{◌+◌, ◌<◌}
use Rattle.rows.specs.Keys.{key_of}
use Rattle.row_search.specs.ByKey.{Window}
use Rattle.row_search.proofs.last_not_above.Given as goal

abbrev pub invariant-loop-size : goal.invariant-loop-size
invariant-loop-size l = record { some : 0 < l.size; window : Window l.table (key_of l.k.high l.k.low) l.from (l.from + l.size) }

abbrev pub decreases-loop-size : goal.decreases-loop-size
decreases-loop-size l = l.size
