-- Laws of the lines of a call's refusals: how one is met, and how it is passed. Assumes nothing.
use mathlib.Core.Path.{◌≡◌, refl, sym, ◌∙◌}
use mathlib.Core.Bool.{Bool, true, false, true≢false}
use Prim.Native.Nat.{ℕ, suc, ◌<◌}
use native.Mathlib.Omega.{arith}
use Rattle.backoff.specs.FirstMet.{◌when◌, ◌at◌, NotMet, Returned}

module _ {n : ℕ} {A : Type 0} where
  pub met_when : A → Returned (n when A) n 0
  met_when a = record { number_is = refl; met = (refl, a); first = λ p l m. absurd (omega arith) }

  pub not_when : (A → ⊥) → NotMet (n when A)
  not_when f = record { nowhere = λ p m. f m.1 }

-- a test that is passed
pub not-false : {n : ℕ} {b : Bool} → b ≡ true → NotMet (n when (b ≡ false))
not-false e = not_when (λ h. true≢false (sym e ∙ h))

module _ {n : ℕ} {P : ℕ → Type 0} where
  pub met_at : (i : ℕ) → P i → ((j : ℕ) → j < i → P j → ⊥) → Returned (n at P) n (suc i)
  met_at i h first = record { number_is = refl; met = (i, refl, h); first = λ p l m. let e = m.1 in first m.0 (omega arith) m.2 }

  pub not_at : ((i : ℕ) → P i → ⊥) → NotMet (n at P)
  not_at f = record { nowhere = λ p m. f m.0 m.2 }
