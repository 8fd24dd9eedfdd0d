-- Check 21, test by test, and what it leaves of a fragment; no fragment of words that are scored after a history, or without one, meets it. Assumes nothing.
use mathlib.Core.Path.{◌≡◌, ap, ◌∙◌}
use mathlib.Core.Bool.{Bool, true, ◌&&◌, and_assoc, and-true}
use mathlib.Core.List.{List, [], ◌∷◌}
use Prim.Native.Nat.{ℕ, ◌*◌, ◌-◌, ◌≤◌, min}
use native.Mathlib.Nat.{mul-le-mul_left, mul-le-mul_right}
use native.Mathlib.Omega.{arith}
use lib.ListN.{length, length-take}
use lib.IntN.{ℤ, nat_abs}
use lib.Dec.{eqb, leb}
use borrow.Author.Tests.{eq-eqb, le-leb, leb-true, eqb-true}
use Rattle.backoff.specs.Limits.{order_limit, largest_backoff}
use Rattle.backoff.specs.Model.{Model, AcceptedModel, reach}
use Rattle.backoff.specs.Rule.{history}
use Rattle.backoff.specs.State.{State, after}
use Rattle.backoff.specs.NineNumbers.{all, nine, state_ok}
use Rattle.backoff.proofs.NineNumbers.{passed, after_bounded, after_ok}
use Rattle.backoff.proofs.Run.{run_end-is-after}
use Rattle.backoff.proofs.Sizes.{run_points-size}
use Rattle.carried_state.specs.Numbers.{numbers_of}
use Rattle.fragments.specs.declared.Fragment.{Fragment as Numbers}
use Rattle.fragments.specs.Fragment.{Fragment, packed, fragment_ok, fragment_from, fragment_of}
use Rattle.fragments.specs.Outcome.{fragment_in}
use Rattle.fragments.proofs.ByRule.{fragment_of-is}
use Rattle.fragments.proofs.Crossing.{length-kept_in}

all_three : (a b c : Bool) → a ≡ true → b ≡ true → c ≡ true → all (a ∷ b ∷ c ∷ []) ≡ true
unfolding all
all_three a b c p q r = rw (p, q, r)

module _ (M : Model) (A : AcceptedModel M) where
  -- words scored after any history
  pub fragment_from_passes : (h ws : List ℕ) → fragment_ok M.order (packed (fragment_from M (after M h) ws)) ≡ true
  unfolding fragment_ok packed fragment_from reach
  fragment_from_passes h ws =
      all_three _ _ _
      (eq-eqb _ _ (length-take (reach M) ws))
      (ap (λ (s : State). state_ok M.order (nine s)) (run_end-is-after M A h ws) ∙ after_ok M A (history M h ws))
      (le-leb _ _ (run_points-size M A.in_probability_lem A.in_backoff_lem M.order (omega (arith, A.order-low)) ws (after M h) (after_bounded M A.in_backoff_lem h)))

  pub fragments_pass : (ws : List ℕ) → fragment_ok M.order (packed (fragment_of M ws)) ≡ true
  fragments_pass ws = rw (fragment_of-is M ws) (fragment_from_passes [] ws)

-- check 21 of a fragment as it crosses, test by test
pub fragment_ok_tests : (n : ℕ) (f : Numbers) → fragment_ok n (fragment_in f) ≡ ((eqb f.kept (min (n - 1) f.count) && state_ok n (numbers_of f.state)) && leb (nat_abs f.total) (f.count * (n * largest_backoff)))
unfolding fragment_ok all
fragment_ok_tests n f = rw (length-kept_in f.kept f.first) (simp (and_assoc, and-true))

-- what it leaves of a fragment
module _ (n : ℕ) (f : Fragment (List ℤ)) (ok : fragment_ok n f ≡ true) where
  pub kept-words : length f.first ≡ min (n - 1) f.count
  unfolding fragment_ok
  kept-words = eqb-true _ _ (passed _ 0 ok)

  pub end_ok : state_ok n f.end ≡ true
  unfolding fragment_ok
  end_ok = passed _ 1 ok

  pub total_bound : n ≤ order_limit → nat_abs f.total ≤ f.count * (order_limit * largest_backoff)
  unfolding fragment_ok
  total_bound order =
      let most : f.count * (n * largest_backoff) ≤ f.count * (order_limit * largest_backoff) = mul-le-mul_left f.count (mul-le-mul_right largest_backoff order) in
      omega (arith, leb-true (nat_abs f.total) (f.count * (n * largest_backoff)) (passed _ 2 ok))
