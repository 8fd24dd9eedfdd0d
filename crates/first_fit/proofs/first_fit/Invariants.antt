-- No slot of the chain up to d fits. Ahead of d, the slots of the children passed are open, so all are where those of the rest are.
use mathlib.Core.Path.{◌≡◌}
use mathlib.Core.Bool.{false}
use Prim.Native.Nat.{ℕ, ◌-◌}
use lib.ListN.{length}
use Rattle.rows.specs.Table.{rows_of}
use Rattle.placing.specs.Placing.{Room, all_open, fits}
use Rattle.free_slots.specs.Chain.{Linked}
use Rattle.free_slots.proofs.Search.{PassedTo}
use Rattle.first_fit.specs.Steps.{oldest_from, oldest_of}
use Rattle.first_fit.proofs.first_fit.Given as goal

abbrev pub invariant-free : goal.invariant-free
invariant-free l = (N : ℕ) (b c : Room) → Linked N b c l.base l.check → PassedTo N c (fits c (oldest_of l.rows)) l.d

abbrev pub decreases-free : goal.decreases-free
decreases-free l = length l.base - l.d

abbrev pub invariant-loop-k : goal.invariant-loop-k
invariant-loop-k l = (N : ℕ) (b c : Room) → Linked N b c l.base l.check → all_open c false l.d (oldest_of l.rows) ≡ all_open c false l.d (oldest_from l.rows l.k (rows_of l.rows - l.k))
