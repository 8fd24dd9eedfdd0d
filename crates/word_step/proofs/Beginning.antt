-- The empty state as a run carries it. Assumes nothing.
use mathlib.Core.Path.{◌≡◌, refl}
use mathlib.Core.List.{List}
use Prim.Native.Nat.{ℕ}
use native.Mathlib.Omega.{arith}
use lib.ListN.{length}
use lib.IntN.{ℤ, pos}
use Rattle.backoff.specs.NineNumbers.{all}
use Rattle.carried_state.specs.declared.Packed.{Packed}
use Rattle.carried_state.specs.Packed.{Carries}

-- no words, and no back-off owed
abbrev pub nothing : Packed
nothing = record { count = 0; words = 0; owed = pos 0 }

module _ (n : ℕ) (backoffs : List ℤ) (five : length backoffs ≡ 5) where
  pub nothing-carries : Carries n nothing backoffs
  unfolding all
  nothing-carries = record { five = five; few = omega arith; in_backoffs = refl; owed = refl }
