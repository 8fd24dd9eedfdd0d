-- A scoring that 14 refuses returns the empty fragment, and a join does not see that it was refused: so it is not enough that no join is. Assumes nothing.
use Rattle.std.specs.declared.option.Option.TheVariants.{Some}
use mathlib.Core.Path.{◌≡◌, refl, sym, ap, ap₂, ◌∙◌}
use mathlib.Core.Bool.{true}
use mathlib.Core.List.{List, [], ◌∷◌, ◌++◌, append_assoc}
use Prim.Native.Nat.{ℕ, suc, ◌≤◌, ◌<◌}
use native.Mathlib.Omega.{arith}
use lib.ListN.{length, replicate, length-append, length-replicate}
use Rattle.backoff.specs.Limits.{run_limit}
use Rattle.backoff.specs.Model.{Model, AcceptedModel}
use Rattle.backoff.specs.Store.{Store, model_in}
use Rattle.backoff.proofs.Store.{Whole}
use Rattle.fragments.specs.declared.Fragment.{Fragment as Numbers}
use Rattle.fragments.specs.declared.Joined.{Joined}
use Rattle.fragments.specs.Fragment.{packed, fragment_from, fragment_of}
use Rattle.fragments.specs.Outcome.{to_numbers}
use Rattle.fragment_scoring.specs.Outcome.{fragment_outcome}
use Rattle.fragment_scoring.proofs.Outcome.{fragment_outcome-is, fragment_outcome_too_many, nothing-scored}
use Rattle.joining.specs.Outcome.{join_outcome}
use Rattle.joining.specs.Bracketing.{Bracketing, piece, both, words_in, evaluate, joins_accepted}
use Rattle.joining.proofs.Outcome.{joined-scored}

module _ (S : Store) (W : Whole S) (A : AcceptedModel (model_in S)) where
  abbrev M : Model
  M = model_in S

  module _ (us vs : List ℕ) (many : run_limit < length us) (few : length vs ≤ run_limit) where
    refused_scoring_unseen : evaluate (Some S) (both (piece us) (piece vs)) ≡ fragment_outcome (Some S) vs
    unfolding evaluate
    refused_scoring_unseen =
        ap₂ (λ (a b : Numbers). join_outcome (Some S) a b) (ap (λ (j : Joined). j.fragment) (fragment_outcome_too_many S W A us many) ∙ ap to_numbers (nothing-scored S W A)) (ap (λ (j : Joined). j.fragment) (fragment_outcome-is S W A vs few))
        ∙ joined-scored S W A [] vs

    unseen_accepted : joins_accepted (Some S) (both (piece us) (piece vs)) ≡ true
    unfolding joins_accepted
    unseen_accepted = rw (refused_scoring_unseen ∙ fragment_outcome-is S W A vs few)

  count-is : (ws : List ℕ) → length ws ≤ run_limit → (fragment_outcome (Some S) ws).fragment.count ≡ length ws
  count-is ws few = ap (λ (j : Joined). j.fragment.count) (fragment_outcome-is S W A ws few) ∙ (unfold packed fragment_of fragment_from in refl)

  -- Document 02 asks only that no join in a bracketing is refused. After more than 65,535 words, two further ones are joined as one fragment or as the second of
  -- them alone.
  pub not_by_joins_alone : ((t u : Bracketing) → joins_accepted (Some S) t ≡ true → joins_accepted (Some S) u ≡ true → words_in t ≡ words_in u → evaluate (Some S) t ≡ evaluate (Some S) u) → ⊥
  unfolding words_in
  not_by_joins_alone claim = go (replicate (suc run_limit) 4) (omega (arith, length-replicate {A = ℕ} (suc run_limit) 4))
    where
      one : List ℕ
      one = 4 ∷ []

      two : List ℕ
      two = 4 ∷ 4 ∷ []

      go : (us : List ℕ) → run_limit < length us → ⊥
      go us many = omega (arith, sym (count-is two (omega arith)) ∙ counts ∙ count-is one (omega arith))
        where
          more : run_limit < length (us ++ one)
          more = omega (arith, length-append us one)

          counts : (fragment_outcome (Some S) two).fragment.count ≡ (fragment_outcome (Some S) one).fragment.count
          counts =
              ap (λ (j : Joined). j.fragment.count)
              (sym (refused_scoring_unseen us two many (omega arith))
              ∙ claim (both (piece us) (piece two)) (both (piece (us ++ one)) (piece one)) (unseen_accepted us two many (omega arith)) (unseen_accepted (us ++ one) one more (omega arith)) (sym (append_assoc us one one))
              ∙ refused_scoring_unseen (us ++ one) one more (omega arith))
