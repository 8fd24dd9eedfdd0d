-- What the code's sum of words says of their fragment. Assumes nothing.
use Rattle.std.specs.declared.result.Result.{Result}
use Rattle.std.specs.declared.result.Result.TheVariants.{Ok, Err}
use Rattle.backoff.specs.declared.Refusal.{Refusal}
use Rattle.backoff.specs.Refusal.{reason_number}
use Rattle.run_answer.proofs.Refused.{some-number}
use mathlib.Core.Path.{◌≡◌, ap, ◌∙◌}
use mathlib.Core.List.{List}
use Prim.Native.Nat.{ℕ}
use native.Mathlib.Omega.{arith}
use lib.IntN.{ℤ}
use Rattle.backoff.specs.State.{State, empty}
use Rattle.backoff.specs.NineNumbers.{nine_zeros, state_in}
use Rattle.backoff.specs.Store.{Store, Ran, ran, refused_at, run_over}
use Rattle.carried_state.specs.Numbers.{numbers_of}
use Rattle.carried_state.proofs.Carried.{zeros-empty}
use Rattle.run_answer.specs.declared.Ran.{Ran as Summing}
use Rattle.sums.specs.Sums.{Summed, summed_of, summed}
use Rattle.fragments.specs.Outcome.{returned, refused_by, scored_fragment}
use Rattle.fragment_scoring.specs.Outcome.{scored_as}

-- from the empty state, as the code holds it
pub summed-empty : (S : Store) (ws : List ℕ) (l : List ℤ) (x : Result Summing (Refusal ℕ)) → l ≡ nine_zeros → summed_of l x ≡ summed l (run_over S ws (state_in l) 1) → summed_of nine_zeros x ≡ summed nine_zeros (run_over S ws empty 1)
summed-empty S ws l x z e = (rw z at e) ∙ ap (λ (s : State). summed nine_zeros (run_over S ws s 1)) zeros-empty

module _ (n : ℕ) (ws : List ℕ) (l : List ℤ) where
  pub summed-refused : (x : Refusal ℕ) (y : Ran) → summed_of l (Err x) ≡ summed l y → scored_as n ws y ≡ refused_by (reason_number x.reason) x.place
  summed-refused x (ran ps bs t) e = absurd (some-number x.reason (ap (λ (s : Summed). s.number) e))
  summed-refused x (refused_at k) e = rw (ap (λ (s : Summed). s.number) e, ap (λ (s : Summed). s.place) e)

  pub summed-scored : (x : Summing) (y : Ran) → summed_of l (Ok x) ≡ summed l y → scored_as n ws y ≡ returned (scored_fragment n ws x.total (numbers_of x.end))
  summed-scored x (ran ps bs t) e = rw (ap (λ (s : Summed). s.total) e, ap (λ (s : Summed). s.end) e)
  summed-scored x (refused_at k) e = absurd (omega (arith, ap (λ (s : Summed). s.number) e))
