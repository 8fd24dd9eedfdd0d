-- A run leaves its slices as long as they were, over any arrays and from any state, refused or not. Assumes nothing.
use Rattle.std.specs.declared.option.Option.{Option}
use Rattle.std.specs.declared.option.Option.TheVariants.{Some, None}
use mathlib.Core.Path.{◌≡◌, refl}
use mathlib.Core.Logic.{◌⊎◌, inl, inr}
use mathlib.Core.Bool.{Bool, true, false, cond}
use mathlib.Core.List.{List}
use Prim.Native.Nat.{ℕ, ◌≤◌}
use native.Mathlib.Omega.{arith}
use lib.ListN.{length, drop, replicate, length-append, length-drop, length-replicate}
use lib.IntN.{ℤ, pos}
use lib.Dec.{eqb}
use borrow.Author.Tests.{eqb-true}
use Rattle.backoff.specs.Run.{Run, Answer, accepted, written, refused_run, accepted_run}
use Rattle.backoff.specs.Refusal.{bad_state}
use Rattle.backoff.specs.NineNumbers.{state_in, state_ok}
use Rattle.backoff.specs.Store.{Store, model_in, run_over, refused_at, broken_run, run_in, run_outcome}
use Rattle.backoff.proofs.Run.{Fits, fits, length-run_points, length-run_bytes}
use Rattle.backoff.proofs.Store.{model_ran, run_over_cases}

-- both slices of an answer are as long as the run's
pub record Keeps (r : Run) (a : Answer (List ℤ)) : Type 0 where
  pub points : length a.points ≡ length r.points
  pub lengths : length a.lengths ≡ length r.lengths

pub length-written : {A : Type 0} (new old : List A) → length new ≤ length old → length (written new old) ≡ length old
unfolding written
length-written new old h = omega (arith, length-append new (drop (length new) old), length-drop (length new) old)

module _ (l : List ℤ) (r : Run) where
  refused_keeps : (number : ℕ) → Keeps r (refused_run number 0 l r)
  unfolding refused_run
  refused_keeps number = record { points = refl; lengths = refl }

  module _ (f : Fits r) where
    broken_keeps : (k : ℕ) → Keeps r (broken_run k l r)
    unfolding broken_run
    broken_keeps k = record {
      points = length-written (replicate (length r.words) (pos 0)) r.points (omega (arith, length-replicate (length r.words) (pos 0), f.points));
      lengths = length-written (replicate (length r.words) 0) r.lengths (omega (arith, length-replicate {A = ℕ} (length r.words) 0, f.lengths));
    }

    accepted_keeps : (end points : List ℤ) (bytes : List ℕ) → length points ≡ length r.words → length bytes ≡ length r.words → Keeps r (accepted_run end points bytes r)
    unfolding accepted_run
    accepted_keeps end points bytes p b = record {
      points = length-written points r.points (omega (arith, f.points));
      lengths = length-written bytes r.lengths (omega (arith, f.lengths));
    }

  run_in_keeps : (o : Option Store) → Keeps r (run_in o l r)
  run_in_keeps None = refused_keeps _
  run_in_keeps (Some S) = go (state_ok S.order l) refl (accepted r) refl (run_over_cases S r.words (state_in l) 1)
    where
      go : (b : Bool) → state_ok S.order l ≡ b → (c : Bool) → accepted r ≡ c → ((j : ℕ) × (run_over S r.words (state_in l) 1 ≡ refused_at j)) ⊎ (run_over S r.words (state_in l) 1 ≡ model_ran (model_in S) (state_in l) r.words) → Keeps r (run_in (Some S) l r)
      go false e c f o = rw e (refused_keeps _)
      go true e false f o = rw (e, f) (refused_keeps _)
      go true e true f (inl (j, o)) = rw (e, f, o) (broken_keeps (fits r (eqb-true _ _ (unfold accepted in f))) j)
      go true e true f (inr o) =
          rw (e, f, o)
          (accepted_keeps (fits r (eqb-true _ _ (unfold accepted in f))) _ _ _ (length-run_points (model_in S) (state_in l) r.words) (length-run_bytes (model_in S) (state_in l) r.words))

  pub run_outcome_keeps : (o : Option Store) → Keeps r (run_outcome o l r)
  unfolding run_outcome
  run_outcome_keeps o = elim (eqb (length l) 9) as (λ b. Keeps r (cond b (run_in o l r) (refused_run bad_state 0 l r))) [ true ↦ run_in_keeps o | false ↦ refused_keeps _ ]
