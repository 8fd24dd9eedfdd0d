-- The outcome of scoring means what specs/Meaning.antt says, over any lent arrays. Assumes nothing.
use mathlib.Core.Path.{◌≡◌, refl, ap, ◌∙◌}
use mathlib.Core.Logic.{inl, inr}
use mathlib.Core.Bool.{Bool, true, false}
use mathlib.Core.List.{List}
use Prim.Native.Nat.{ℕ, suc}
use native.Mathlib.Numerals.{one-add}
use native.Mathlib.Omega.{arith}
use lib.ListN.{length, drop}
use lib.IntN.{ℤ}
use lib.Dec.{ltb}
use borrow.Author.Tests.{ltb-true, ltb-false}
use Rattle.backoff.specs.Limits.{run_limit}
use Rattle.backoff.specs.Refusal.{array_head, broken_node, word_count}
use Rattle.backoff.specs.FirstMet.{FirstMet}
use Rattle.backoff.specs.Model.{reach}
use Rattle.backoff.specs.State.{empty}
use Rattle.backoff.specs.Store.{model_in, refused_at}
use Rattle.backoff.proofs.FirstMet.{met_when, not_when, not-false, met_at, not_at}
use Rattle.double_array.specs.DoubleArray.{is_array, store_in, opened}
use Rattle.double_array.proofs.DoubleArray.{opened_some, opened-none}
use Rattle.score.proofs.Refusals.{Told, first-stuck, none_stuck, first-stuck_or_none}
use Rattle.fragments.specs.Fragment.{packed, fragment_from, fragment_of}
use Rattle.fragments.specs.Outcome.{refused_by, crossed}
use Rattle.fragment_scoring.specs.Outcome.{scored_in, fragment_outcome}
use Rattle.fragment_scoring.specs.Meaning.{scoring_refusals, ScoringMeans}

module _ (base check : List ℤ) (ws : List ℕ) where
  refused_scoring : (number place : ℕ) → (number ≡ 0 → ⊥) → FirstMet (scoring_refusals base check ws) number place → ScoringMeans base check ws (crossed (refused_by number place))
  refused_scoring number place n v = record { verdict = v; accepted = λ e. absurd (n e); refused = λ e. refl }

  -- 11 and 14 are passed
  past_scoring : is_array base check ≡ true → ltb run_limit (length ws) ≡ false → (number place : ℕ) → FirstMet (drop 2 (scoring_refusals base check ws)) number place → FirstMet (scoring_refusals base check ws) number place
  past_scoring p q number place v = inr (not-false p, inr (not_when (λ h. let m = ltb-false run_limit (length ws) q in omega arith), v))

  pub scoring_means : ScoringMeans base check ws (fragment_outcome (opened base check) ws)
  unfolding fragment_outcome store_in
  scoring_means = go (is_array base check) refl (ltb run_limit (length ws)) refl (first-stuck_or_none base check ws empty 1)
    where
      go : (t : Bool) → is_array base check ≡ t → (u : Bool) → ltb run_limit (length ws) ≡ u → Told base check ws empty 1 → ScoringMeans base check ws (crossed (scored_in (opened base check) ws))
      go false p u q o = rw (opened-none base check p) (refused_scoring array_head 0 (λ z. omega arith) (inl (met_when p)))
      go true p true q o = rw (opened_some base check p, q) (refused_scoring word_count 0 (λ z. omega arith) (inr (not-false p, inl (met_when (ltb-true _ _ q)))))
      go true p false q (first-stuck i o t f) = rw (opened_some base check p, q, o ∙ ap refused_at (one-add i)) (refused_scoring broken_node (suc i) (λ z. omega arith) (past_scoring p q _ _ (inl (met_at i t f))))
      go true p false q (none_stuck o n) =
          rw (opened_some base check p, q, o)
          (record { verdict = past_scoring p q _ _ (inr (not_at n, (refl, refl))); accepted = λ e. unfold packed fragment_of fragment_from reach model_in in refl; refused = λ n. absurd (n refl) })
