-- Laws of joining over a store with no broken node and an accepted model, as every built array is: it answers as over the model, unless 14 refuses it.
-- Assumes nothing.
use Rattle.std.specs.declared.option.Option.TheVariants.{Some}
use mathlib.Core.Path.{◌≡◌, refl, sym, ap, ap₂, ◌∙◌}
use mathlib.Core.Logic.{◌⊎◌, inl, inr}
use mathlib.Core.Bool.{Bool, true, false, cond}
use mathlib.Core.List.{List, [], ◌++◌}
use Prim.Native.Nat.{ℕ, ◌+◌, ◌≤◌, ◌<◌}
use lib.ListN.{length, length-append}
use lib.IntN.{ℤ}
use lib.Dec.{ltb}
use borrow.Author.Tests.{lt-ltb, le-ltb}
use Rattle.integer.proofs.Ranges.{lt_or_ge}
use Rattle.backoff.specs.Limits.{run_limit}
use Rattle.backoff.specs.Refusal.{word_count}
use Rattle.backoff.specs.Model.{Model, AcceptedModel, reach}
use Rattle.backoff.specs.Rule.{history}
use Rattle.backoff.specs.State.{State, empty, after}
use Rattle.backoff.specs.NineNumbers.{nine, state_in}
use Rattle.backoff.specs.Store.{Store, model_in}
use Rattle.backoff.proofs.NineNumbers.{state_in-after}
use Rattle.backoff.proofs.Run.{run_end-is-after}
use Rattle.backoff.proofs.Store.{Whole, model_ran, run_over-is}
use Rattle.fragments.specs.declared.Joined.{Joined}
use Rattle.fragments.specs.Fragment.{Fragment, packed, fragment_ok, fragment_from, fragment_of}
use Rattle.fragments.specs.Outcome.{Reply, returned, refused_by, to_numbers, crossed}
use Rattle.fragments.proofs.ByRule.{fragment_of-is}
use Rattle.fragments.proofs.Check.{fragment_from_passes, fragments_pass}
use Rattle.fragments.proofs.Crossing.{packed-back}
use Rattle.fragment_scoring.specs.Outcome.{fragment_outcome}
use Rattle.fragment_scoring.proofs.Outcome.{shown, fragment_outcome-is, fragment_outcome_too_many, scored-few, few-kept}
use Rattle.joining.specs.Join.{joined_total, joined_end, join}
use Rattle.joining.specs.Outcome.{joined_as, joined_in, join_outcome}
use Rattle.joining.proofs.Join.{join-after}

pub nine-cond : (c : Bool) (s t : State) → cond c (nine s) (nine t) ≡ nine (cond c s t)
nine-cond true s t = refl
nine-cond false s t = refl

-- any two fragments that pass 21, over any store with no broken node: the formula over its model
module _ (S : Store) (W : Whole S) (a b : Fragment State) (held : state_in (nine a.end) ≡ a.end) where
  joined_as-is : joined_as S.order (packed a) (packed b) (model_ran (model_in S) empty b.first) (model_ran (model_in S) (state_in (nine a.end)) b.first) ≡ returned (packed (join (model_in S) a b))
  unfolding packed join joined_total joined_end reach model_in
  joined_as-is = rw (held, nine-cond)

  join_by_formula : fragment_ok S.order (packed a) ≡ true → fragment_ok S.order (packed b) ≡ true → joined_in (Some S) (packed a) (packed b) ≡ cond (ltb run_limit (a.count + b.count)) (refused_by word_count 0) (returned (packed (join (model_in S) a b)))
  join_by_formula p q = rw (p, q) (unfold packed in rw (run_over-is S W b.first empty 1, run_over-is S W b.first (state_in (nine a.end)) 1) (ap (λ (j : Reply). cond (ltb run_limit (a.count + b.count)) (refused_by word_count 0) j) joined_as-is))

module _ (S : Store) (W : Whole S) (A : AcceptedModel (model_in S)) where
  abbrev M : Model
  M = model_in S

  -- words that were scored after any history, joined with the fragment of others
  module _ (h us vs : List ℕ) where
    abbrev first : Fragment State
    first = fragment_from M (after M h) us

    joined-after : join_outcome (Some S) (to_numbers (packed first)) (to_numbers (packed (fragment_of M vs))) ≡ cond (ltb run_limit (length (us ++ vs))) (crossed (refused_by word_count 0)) (shown (fragment_from M (after M h) (us ++ vs)))
    unfolding join_outcome
    joined-after =
        ap₂ (λ (a b : Fragment (List ℤ)). crossed (joined_in (Some S) a b)) (packed-back first (few-kept S W A (after M h) us)) (packed-back (fragment_of M vs) (unfold fragment_of in few-kept S W A empty vs))
        ∙ ap crossed
        (join_by_formula S W first (fragment_of M vs) held passes_first passes_second
        ∙ ap₂ (λ (n : ℕ) (f : Fragment State). cond (ltb run_limit n) (refused_by word_count 0) (returned (packed f))) counts (join-after M A h us vs))
        ∙ crossed-cond (ltb run_limit (length (us ++ vs))) (refused_by word_count 0) (returned (packed (fragment_from M (after M h) (us ++ vs))))
      where
        crossed-cond : (c : Bool) (r q : Reply) → crossed (cond c r q) ≡ cond c (crossed r) (crossed q)
        crossed-cond true r q = refl
        crossed-cond false r q = refl

        held : state_in (nine first.end) ≡ first.end
        held = unfold fragment_from in rw (run_end-is-after M A h us) (state_in-after M A (history M h us))

        passes_first : fragment_ok S.order (packed first) ≡ true
        passes_first = unfold model_in in fragment_from_passes M A h us

        passes_second : fragment_ok S.order (packed (fragment_of M vs)) ≡ true
        passes_second = unfold model_in in fragments_pass M A vs

        counts : first.count + (fragment_of M vs).count ≡ length (us ++ vs)
        counts = unfold fragment_from fragment_of in sym (length-append us vs)

    pub joined-few : length (us ++ vs) ≤ run_limit → join_outcome (Some S) (to_numbers (packed first)) (to_numbers (packed (fragment_of M vs))) ≡ shown (fragment_from M (after M h) (us ++ vs))
    joined-few few = joined-after ∙ rw (le-ltb run_limit (length (us ++ vs)) few)

    pub joined-many : run_limit < length (us ++ vs) → join_outcome (Some S) (to_numbers (packed first)) (to_numbers (packed (fragment_of M vs))) ≡ crossed (refused_by word_count 0)
    joined-many many = joined-after ∙ rw (lt-ltb run_limit (length (us ++ vs)) many)

  -- 14 meets the join where it meets the scoring of all the words
  pub joined-scored : (us vs : List ℕ) → join_outcome (Some S) (to_numbers (packed (fragment_of M us))) (to_numbers (packed (fragment_of M vs))) ≡ fragment_outcome (Some S) (us ++ vs)
  joined-scored us vs = ap (λ (f : Fragment State). join_outcome (Some S) (to_numbers (packed f)) (to_numbers (packed (fragment_of M vs)))) (fragment_of-is M us) ∙ go (lt_or_ge run_limit (length (us ++ vs)))
    where
      go : (run_limit < length (us ++ vs)) ⊎ (length (us ++ vs) ≤ run_limit) → join_outcome (Some S) (to_numbers (packed (fragment_from M (after M []) us))) (to_numbers (packed (fragment_of M vs))) ≡ fragment_outcome (Some S) (us ++ vs)
      go (inl many) = joined-many [] us vs many ∙ sym (fragment_outcome_too_many S W A (us ++ vs) many)
      go (inr few) = joined-few [] us vs few ∙ ap shown (sym (fragment_of-is M (us ++ vs))) ∙ sym (fragment_outcome-is S W A (us ++ vs) few)

  -- "Joining two neighbours gives what scoring the joined words as one fragment gives", its 14 too
  pub join-is_scoring : (us vs : List ℕ) → (fragment_outcome (Some S) us).number ≡ 0 → (fragment_outcome (Some S) vs).number ≡ 0 → join_outcome (Some S) (fragment_outcome (Some S) us).fragment (fragment_outcome (Some S) vs).fragment ≡ fragment_outcome (Some S) (us ++ vs)
  join-is_scoring us vs e f =
      ap₂ (λ (a b : Joined). join_outcome (Some S) a.fragment b.fragment) (fragment_outcome-is S W A us (scored-few S W A us e)) (fragment_outcome-is S W A vs (scored-few S W A vs f))
      ∙ joined-scored us vs
