-- The slots of the children passed are taken, and those left lead to the same room.
use Prim.Native.Nat.{ℕ}
use lib.IntN.{ℤ}
use Rattle.placing.specs.Placing.{Room}
use Rattle.first_fit.specs.Steps.{Settles, Fitting}
use Rattle.first_fit.proofs.OldestWords.{Owning}
use Rattle.first_fit.proofs.settle.Given as goal

abbrev pub invariant-loop-k : goal.invariant-loop-k
invariant-loop-k l = (N : ℕ) (b c : Room) (z : ℤ) → Settles N b c l.fn.base l.fn.check l.rows l.fn.node.slot z → Fitting N c l.rows l.fn.fit.behind l.fn.fit.d → Owning N b c l.rows l.fn.fit.behind l.fn.fit.d l.fn.node.slot l.base l.check l.k
