-- The rows passed have fewer than m words.
use Rattle.std.proofs.Common.{ℕ, ◌<◌}
use Rattle.rows.specs.Table.{length_of}
use Rattle.row_nodes.proofs.rows_below.Given as goal

abbrev pub invariant-loop-k : goal.invariant-loop-k
invariant-loop-k l = (j : ℕ) → j < l.k → length_of l.table j < l.m
