-- The best of the rows of m to k − 1 words.
use Rattle.rows.specs.Keys.{key_of}
use Rattle.filled_list.specs.Found.{BestOf}
use Rattle.filled_list.proofs.next_row.Given as goal

abbrev pub invariant-loop-k : goal.invariant-loop-k
invariant-loop-k l = BestOf l.table l.m (key_of l.floor.high l.floor.low) l.k l.best
