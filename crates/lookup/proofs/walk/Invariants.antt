use mathlib.Core.List.{reverse}
use lib.ListN.{length}
use Rattle.lookup.proofs.Walking.{Walked}
use Rattle.lookup.proofs.walk.Given as goal

abbrev pub invariant-loop-word : goal.invariant-loop-word
invariant-loop-word l = Walked l.array.base.now l.array.check.now l.fn.newest (reverse l.older) (length l.yielded) l.s
