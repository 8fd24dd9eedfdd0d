-- The rows before row i are placed, and no slot is taken.
use Rattle.std.proofs.Common.{◌≡◌, ℕ, ℤ, List, ◌+◌}
use Rattle.row_nodes.specs.Steps.{placed_nodes, Filled}
use Rattle.list_trie.proofs.place_longest.Given as goal

abbrev pub invariant-loop-i : goal.invariant-loop-i
invariant-loop-i l = ((placed_nodes l.list.table.now (l.i + 1)).top ≡ (placed_nodes l.list.table.now (l.first + 1)).top) × ((N : ℕ) (check : List ℤ) → Filled l.list.table.now N (placed_nodes l.list.table.now (l.first + 1)) l.initial.base check l.work → Filled l.list.table.now N (placed_nodes l.list.table.now (l.i + 1)) l.base check l.work)
