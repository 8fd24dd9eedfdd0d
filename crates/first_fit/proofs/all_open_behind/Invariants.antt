-- The slots of the children passed are open, so all are where those of the rest are.
use mathlib.Core.Path.{◌≡◌}
use mathlib.Core.Bool.{true}
use Prim.Native.Nat.{ℕ, ◌-◌}
use mathlib.Core.List.{List}
use lib.IntN.{ℤ}
use Rattle.rows.specs.Table.{rows_of}
use Rattle.placing.specs.Placing.{Room, all_open}
use Rattle.free_slots.specs.Chain.{Linked}
use Rattle.first_fit.specs.Steps.{oldest_from, oldest_of}
use Rattle.first_fit.proofs.all_open_behind.Given as goal

abbrev pub invariant-loop-k : goal.invariant-loop-k
invariant-loop-k l = (N : ℕ) (b c : Room) (base : List ℤ) → Linked N b c base l.check → all_open c true l.d (oldest_of l.rows) ≡ all_open c true l.d (oldest_from l.rows l.k (rows_of l.rows - l.k))
