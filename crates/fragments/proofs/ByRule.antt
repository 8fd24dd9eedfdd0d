-- Laws of fragments over a model: without left context is after the empty history, no words are the state alone, and what a fragment is by the back-off rule.
-- Assumes nothing.
use mathlib.Core.Path.{◌≡◌, ap}
use mathlib.Core.List.{List, []}
use Prim.Native.Nat.{ℕ}
use lib.ListN.{length, take}
use lib.Seq.{take-nil}
use lib.IntN.{pos}
use Rattle.integer.specs.Integer.{sum}
use Rattle.backoff.specs.Model.{Model, AcceptedModel, reach}
use Rattle.backoff.specs.Rule.{rule_points, history}
use Rattle.backoff.specs.State.{State, after}
use Rattle.backoff.specs.Run.{run_points, run_end}
use Rattle.backoff.proofs.State.{empty-is-after}
use Rattle.backoff.proofs.Run.{run_points-is-rule, run_end-is-after}
use Rattle.fragments.specs.Fragment.{no_words, fragment_from, fragment_of}

module _ (M : Model) where
  -- no left context is the empty history
  pub fragment_of-is : (ws : List ℕ) → fragment_of M ws ≡ fragment_from M (after M []) ws
  unfolding fragment_of
  fragment_of-is ws = ap (λ (s : State). fragment_from M s ws) (empty-is-after M)

  pub no-words-scored : (s : State) → fragment_from M s [] ≡ no_words s
  unfolding fragment_from no_words run_points run_end
  no-words-scored s = λ i. record { total = pos 0; first = take-nil (reach M) i; count = 0; end = s }

module _ (M : Model) (A : AcceptedModel M) where
  -- what a fragment means: its words by the back-off rule, after any history or none
  pub fragment_by_rule : (h ws : List ℕ) → fragment_from M (after M h) ws ≡ record { total = sum (rule_points M h ws); first = take (reach M) ws; count = length ws; end = after M (history M h ws) }
  unfolding fragment_from
  fragment_by_rule h ws = λ i. record { total = sum (run_points-is-rule M A h ws i); first = take (reach M) ws; count = length ws; end = run_end-is-after M A h ws i }
