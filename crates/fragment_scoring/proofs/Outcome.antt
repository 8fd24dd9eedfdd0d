-- Laws of scoring over a store with no broken node and an accepted model, as every built array is: it answers as over the model, unless 14 refuses it.
-- Assumes nothing.
use Rattle.std.specs.declared.option.Option.TheVariants.{Some}
use mathlib.Core.Path.{◌≡◌, refl, sym, ap, ◌∙◌}
use mathlib.Core.Logic.{◌⊎◌, inl, inr}
use mathlib.Core.List.{List, []}
use Prim.Native.Nat.{ℕ, ◌-◌, ◌≤◌, ◌<◌}
use native.Mathlib.Omega.{arith}
use lib.ListN.{length, length-take}
use borrow.Author.Tests.{lt-ltb, le-ltb}
use Rattle.integer.proofs.Ranges.{lt_or_ge}
use Rattle.backoff.specs.Limits.{run_limit}
use Rattle.backoff.specs.Refusal.{word_count}
use Rattle.backoff.specs.Model.{Model, AcceptedModel, reach}
use Rattle.backoff.specs.State.{State, empty}
use Rattle.backoff.specs.NineNumbers.{padded, nine, nine_zeros}
use Rattle.backoff.specs.Store.{Store, model_in}
use Rattle.backoff.proofs.Store.{Whole, run_over-is}
use Rattle.fragments.specs.declared.Joined.{Joined}
use Rattle.fragments.specs.Fragment.{Fragment, no_words, packed, fragment_from, fragment_of}
use Rattle.fragments.specs.Outcome.{returned, refused_by, crossed}
use Rattle.fragments.proofs.ByRule.{no-words-scored}
use Rattle.fragment_scoring.specs.Outcome.{fragment_outcome}

-- a fragment that is returned, as it crosses
abbrev pub shown : Fragment State → Joined
shown f = crossed (returned (packed f))

module _ (S : Store) (W : Whole S) (A : AcceptedModel (model_in S)) where
  abbrev M : Model
  M = model_in S

  pub fragment_outcome-is : (ws : List ℕ) → length ws ≤ run_limit → fragment_outcome (Some S) ws ≡ shown (fragment_of M ws)
  unfolding fragment_outcome packed fragment_of fragment_from reach model_in
  fragment_outcome-is ws few = rw (le-ltb run_limit (length ws) few, run_over-is S W ws empty 1)

  pub fragment_outcome_too_many : (ws : List ℕ) → run_limit < length ws → fragment_outcome (Some S) ws ≡ crossed (refused_by word_count 0)
  unfolding fragment_outcome
  fragment_outcome_too_many ws many = rw (lt-ltb run_limit (length ws) many)

  -- a scoring that is not refused
  pub scored-few : (ws : List ℕ) → (fragment_outcome (Some S) ws).number ≡ 0 → length ws ≤ run_limit
  scored-few ws e = go (lt_or_ge run_limit (length ws))
    where
      go : (run_limit < length ws) ⊎ (length ws ≤ run_limit) → length ws ≤ run_limit
      go (inl many) = absurd (omega (arith, sym (ap (λ (j : Joined). j.number) (fragment_outcome_too_many ws many)) ∙ e))
      go (inr few) = few

  -- no more than four words are kept
  pub few-kept : (s : State) (ws : List ℕ) → length (fragment_from M s ws).first ≤ 4
  unfolding fragment_from reach model_in
  few-kept s ws = omega (arith, length-take (S.order - 1) ws, A.order-high)

  -- the empty fragment is that of no words
  pub nothing-scored : no_words nine_zeros ≡ packed (fragment_of M [])
  unfolding no_words packed nine padded
  nothing-scored = ap packed (sym (no-words-scored M empty)) ∙ (unfold fragment_of in refl)
