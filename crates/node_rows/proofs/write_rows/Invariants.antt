-- The rows of the first nodes are written.
use Rattle.std.proofs.Common.{◌≡◌, ◌*◌, take}
use Rattle.array_nodes.specs.Gathering.{nodes_at}
use Rattle.node_rows.specs.Rows.{table_of}
use Rattle.node_rows.proofs.write_rows.Given as goal

abbrev pub invariant-loop-i : goal.invariant-loop-i
invariant-loop-i l = take (8 * l.i) l.table ≡ table_of l.array.base.now l.array.check.now (nodes_at l.array.base.now l.array.check.now (take l.i l.work))
