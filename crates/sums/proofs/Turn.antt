-- The invariant of the loop over the pieces of a run's words. Assumes nothing.
use mathlib.Core.Path.{◌≡◌}
use mathlib.Core.List.{List}
use Prim.Native.Nat.{ℕ}
use lib.ListN.{length}
use lib.IntN.{ℤ}
use Rattle.backoff.specs.Store.{Store}
use Rattle.sums.proofs.Pieces.{Pieced}

pub record Loop (S : Store) (l : List ℤ) (ws : List ℕ) (end : List ℤ) (total : ℤ) (a : ℕ) (points : List ℤ) (lengths : List ℕ) : Type 0 where
  pub pieced : Pieced S l ws end total a
  pub points-long : length points ≡ 64
  pub lengths-long : length lengths ≡ 64
