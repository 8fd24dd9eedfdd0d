-- Words that are scored twice, from nothing and after a state: how large both totals get, and the join that they make. Assumes nothing.
use Rattle.std.specs.declared.option.Option.{Option}
use Rattle.std.specs.declared.option.Option.TheVariants.{Some, None}
use Rattle.std.specs.declared.result.Result.TheVariants.{Ok, Err}
use Rattle.backoff.specs.declared.Refusal.{Refusal}
use Rattle.run_answer.proofs.Refused.{some-number}
use mathlib.Core.Path.{◌≡◌, refl, ap}
use mathlib.Core.Logic.{◌⊎◌, inl, inr}
use mathlib.Core.List.{List}
use Prim.Native.Nat.{ℕ, ◌*◌, ◌-◌, ◌≤◌}
use native.Mathlib.Omega.{arith}
use lib.ListN.{length}
use lib.IntN.{ℤ, nat_abs}
use Rattle.integer.specs.Integer.{sum}
use Rattle.backoff.specs.Limits.{order_limit}
use Rattle.backoff.specs.Refusal.{broken_node}
use Rattle.backoff.specs.Model.{reach}
use Rattle.backoff.specs.State.{State, empty}
use Rattle.backoff.specs.Run.{run_points}
use Rattle.backoff.specs.NineNumbers.{all}
use Rattle.backoff.specs.Store.{Store, Ran, ran, refused_at, model_in, run_over}
use Rattle.backoff.proofs.NineNumbers.{Bounded}
use Rattle.backoff.proofs.Sizes.{run_points-size}
use Rattle.backoff.proofs.Store.{model_ran, run_over_cases}
use Rattle.double_array.specs.DoubleArray.{order_in, store_in}
use Rattle.carried_state.specs.Numbers.{numbers_of}
use Rattle.word_walk.proofs.Rows.{rows-in_probability, rows-in_backoff}
use Rattle.run_answer.specs.declared.Ran.{Ran as Summing}
use Rattle.sums.specs.Sums.{Summed, summed_of, summed}
use Rattle.fragments.specs.Fragment.{Fragment}
use Rattle.fragments.specs.Outcome.{returned, refused_by}
use Rattle.joining.specs.declared.Rescored.{Rescored}
use Rattle.joining.specs.Outcome.{joined_fragment, joined_as}
use Rattle.joining.specs.Inner.{most_points, RescoredAs}

not-none : {r : Rescored} → ◌≡◌ {A = Option Rescored} (Some r) None → ⊥
not-none e = let z : ◌≡◌ {A = ℕ} 0 1 = cc in omega arith

-- ---- the totals

module _ (base check : List ℤ) (order : order_in check ≤ order_limit) (ws : List ℕ) (few : length ws ≤ 4) where
  abbrev S : Store
  S = store_in base check

  total_small : (s : State) → Bounded (order_in check - 1) s → (ps : List ℤ) (bs : List ℕ) (t : State) → run_over S ws s 1 ≡ ran ps bs t → nat_abs (sum ps) ≤ 4 * most_points
  total_small s b ps bs t e = go (run_over_cases S ws s 1)
    where
      go : ((j : ℕ) × (run_over S ws s 1 ≡ refused_at j)) ⊎ (run_over S ws s 1 ≡ model_ran (model_in S) s ws) → nat_abs (sum ps) ≤ 4 * most_points
      go (inl (j, o)) = let z : ◌≡◌ {A = ℕ} 0 1 = cc in absurd (omega arith)
      go (inr o) =
          let same : run_points (model_in S) s ws ≡ ps = cc in
          let small = run_points-size (model_in S) (rows-in_probability base check) (rows-in_backoff base check) order_limit (unfold store_in model_in reach in omega arith) ws s (unfold store_in model_in reach in b) in
          let fewer : nat_abs (sum (run_points (model_in S) s ws)) ≤ 4 * most_points = omega arith in
          rw same at fewer

  empty_bounded : (k : ℕ) → Bounded k empty
  empty_bounded k = record { few = omega arith; even = refl; in_backoffs = unfold all in refl }

  pub totals_small : (s : State) → Bounded (order_in check - 1) s → (r : Rescored) → RescoredAs (run_over S ws empty 1) (run_over S ws s 1) (Some r) → (nat_abs r.less ≤ 4 * most_points) × (nat_abs r.plus ≤ 4 * most_points)
  totals_small s b r h = go (run_over S ws empty 1) (run_over S ws s 1) refl refl h
    where
      go : (y z : Ran) → run_over S ws empty 1 ≡ y → run_over S ws s 1 ≡ z → RescoredAs y z (Some r) → (nat_abs r.less ≤ 4 * most_points) × (nat_abs r.plus ≤ 4 * most_points)
      go (ran ps bs u) (ran qs cs t) p q k = (rw k.less_is (total_small empty (empty_bounded _) ps bs u p), rw k.plus-is (total_small s b qs cs t q))
      go (ran ps bs u) (refused_at j) p q k = absurd (not-none k)
      go (refused_at j) z p q k = absurd (not-none k)

-- ---- what the code's scorings say

module _ (l m : List ℤ) where
  pub rescored_as : (x w : Summing) (y z : Ran) → summed_of l (Ok x) ≡ summed l y → summed_of m (Ok w) ≡ summed m z → RescoredAs y z (Some (record { less = x.total; plus = w.total; end = w.end }))
  rescored_as x w (ran ps bs u) (ran qs cs t) e f = record {
    less_is = ap (λ (s : Summed). s.total) e;
    plus-is = ap (λ (s : Summed). s.total) f;
    end_is = ap (λ (s : Summed). s.end) f;
  }
  rescored_as x w (ran ps bs u) (refused_at j) e f = absurd (omega (arith, ap (λ (s : Summed). s.number) f))
  rescored_as x w (refused_at j) z e f = absurd (omega (arith, ap (λ (s : Summed). s.number) e))

  -- the first scoring is refused, or the second
  pub first_refused : (x : Refusal ℕ) (y z : Ran) → summed_of l (Err x) ≡ summed l y → RescoredAs y z None
  first_refused x (ran ps bs u) z e = absurd (some-number x.reason (ap (λ (s : Summed). s.number) e))
  first_refused x (refused_at j) z e = refl

  pub second_refused : (x : Refusal ℕ) (y z : Ran) → summed_of m (Err x) ≡ summed m z → RescoredAs y z None
  second_refused x y (ran qs cs t) e = absurd (some-number x.reason (ap (λ (s : Summed). s.number) e))
  second_refused x (ran ps bs u) (refused_at j) e = refl
  second_refused x (refused_at i) (refused_at j) e = refl

-- ---- the join

module _ (n : ℕ) (a b : Fragment (List ℤ)) where
  pub rescored_joined : (r : Rescored) (y z : Ran) → RescoredAs y z (Some r) → joined_as n a b y z ≡ returned (joined_fragment n a b r.less r.plus (numbers_of r.end))
  rescored_joined r (ran ps bs u) (ran qs cs t) k = rw (k.less_is, k.plus-is, k.end_is)
  rescored_joined r (ran ps bs u) (refused_at j) k = absurd (not-none k)
  rescored_joined r (refused_at j) y k = absurd (not-none k)

  pub rescored_refused : (y z : Ran) → RescoredAs y z None → joined_as n a b y z ≡ refused_by broken_node 0
  rescored_refused (ran ps bs u) (ran qs cs t) k = absurd k
  rescored_refused (ran ps bs u) (refused_at j) k = refl
  rescored_refused (refused_at j) y k = refl
