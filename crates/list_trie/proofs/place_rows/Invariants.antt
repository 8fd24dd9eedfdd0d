-- The root and the rows before row i are placed, and row i's children begin where theirs end.
use Rattle.std.proofs.Common.{◌≡◌, ◌+◌, ◌<◌, length}
use Rattle.rows.specs.Table.{rows_of}
use Rattle.extensions.specs.Stretch.{ChildrenFrom}
use Rattle.row_nodes.specs.Steps.{placed_nodes, Filled}
use Rattle.list_trie.proofs.place_rows.Given as goal

abbrev pub invariant-loop-i : goal.invariant-loop-i
invariant-loop-i l = (l.i < rows_of l.list.table.now → ChildrenFrom l.list.table.now l.i l.from) × (l.top ≡ (placed_nodes l.list.table.now (l.i + 1)).top) × Filled l.list.table.now (length l.initial.check) (placed_nodes l.list.table.now (l.i + 1)) l.base l.check l.work
