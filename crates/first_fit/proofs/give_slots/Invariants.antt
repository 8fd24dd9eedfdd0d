-- The items passed are their rows' slots.
use Rattle.first_fit.proofs.OldestWords.{Giving}
use Rattle.first_fit.proofs.give_slots.Given as goal

abbrev pub invariant-loop-k : goal.invariant-loop-k
invariant-loop-k l = Giving l.fn.fit.behind l.fn.fit.d l.rows l.fn.work l.work l.k
