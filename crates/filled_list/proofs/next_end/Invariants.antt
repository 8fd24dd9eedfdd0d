-- What is asked of the floor holds of where the search begins.
use Rattle.std.proofs.Common.{ℕ}
use Rattle.filled_list.specs.Next.{Filling}
use Rattle.filled_list.proofs.next_end.Given as goal

abbrev pub invariant-loop-words : goal.invariant-loop-words
invariant-loop-words l = (place : ℕ) → Filling l.table l.n l.fn.m l.fn.floor.high l.fn.floor.low place → Filling l.table l.n l.words l.from.high l.from.low place
