-- The invariant of the loop over a run's words: what is left is the run of the words from the i-th on. Assumes nothing.
use mathlib.Core.Path.{◌≡◌}
use mathlib.Core.List.{List}
use Prim.Native.Nat.{ℕ, ◌<◌}
use lib.ListN.{length, get_or}
use lib.IntN.{ℤ}
use Rattle.backoff.specs.State.{State as Carried}
use Rattle.backoff.specs.Store.{Store}
use Rattle.carried_state.specs.declared.Packed.{Packed}
use Rattle.carried_state.specs.Packed.{held_in, Carries}
use Rattle.word_step.specs.Inner.{replaced}
use Rattle.run_words.proofs.Running.{Running}

pub record Loop (check : List ℤ) (S : Store) (s : Carried) (ws : List ℕ) (points₀ : List ℤ) (lengths₀ : List ℕ) (carried : Packed) (backoffs : List ℤ) (total : ℤ) (ahead i : ℕ) (points : List ℤ) (lengths : List ℕ) : Type 0 where
  pub running : Running S s ws points₀ lengths₀ (held_in carried backoffs) total i points lengths
  pub carries : Carries S.order carried backoffs
  pub ahead-is : i < length ws → ahead ≡ replaced check (get_or ws i 0)
