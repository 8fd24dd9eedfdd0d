-- What is left is the search among the ends from the i-th on.
use Rattle.std.proofs.Common.{◌≡◌, ◌+◌, drop}
use Rattle.sentence_ends.specs.Ends.{bad_end}
use Rattle.sentence_ends.proofs.bad_end.Given as goal

abbrev pub invariant-loop-i : goal.invariant-loop-i
invariant-loop-i l = bad_end l.words 1 0 l.ends ≡ bad_end l.words (l.i + 1) l.before (drop l.i l.ends)
