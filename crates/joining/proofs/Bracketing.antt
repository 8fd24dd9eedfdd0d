-- Laws of bracketings over a store with no broken node and an accepted model, as every built array is: 14 is all that refuses, and where it refuses nothing the
-- result is that of the words scored at once, or of the run from start's state. Assumes nothing.
use Rattle.std.specs.declared.option.Option.TheVariants.{Some}
use mathlib.Core.Path.{◌≡◌, refl, sym, ap, ap₂, ◌∙◌}
use mathlib.Core.Logic.{◌⊎◌, inl, inr}
use mathlib.Core.Bool.{Bool, true, ◌&&◌}
use mathlib.Core.List.{List, [], ◌∷◌, ◌++◌}
use Prim.Native.Nat.{ℕ, ◌+◌, ◌≤◌, ◌<◌}
use native.Mathlib.Omega.{arith}
use lib.ListN.{length, length-append}
use lib.IntN.{ℤ}
use lib.Dec.{eqb}
use borrow.Author.Tests.{eqb-true}
use Rattle.integer.proofs.Ranges.{and_left, and_right, and_both, lt_or_ge}
use Rattle.backoff.specs.Limits.{run_limit, start_word}
use Rattle.backoff.specs.Refusal.{word_count}
use Rattle.backoff.specs.Model.{Model, AcceptedModel}
use Rattle.backoff.specs.State.{State, start, after}
use Rattle.backoff.specs.Run.{Run, accepted, accepted_run, run_points, run_bytes, run_end, run}
use Rattle.backoff.specs.NineNumbers.{nine}
use Rattle.backoff.specs.Store.{Store, model_in, run_outcome, Started, start_outcome}
use Rattle.backoff.proofs.State.{start-is-after}
use Rattle.backoff.proofs.NineNumbers.{length-nine}
use Rattle.backoff.proofs.Run.{fits}
use Rattle.backoff.proofs.Store.{Whole, run_outcome-is, start_outcome-is, packed as packedAnswer}
use Rattle.carried_state.proofs.Carried.{numbers-state_from}
use Rattle.fragments.specs.declared.Fragment.{Fragment as Numbers}
use Rattle.fragments.specs.declared.Joined.{Joined}
use Rattle.fragments.specs.Fragment.{Fragment, no_words, packed, fragment_ok, fragment_from, fragment_of}
use Rattle.fragments.specs.Outcome.{refused_by, fragment_in, to_numbers, crossed}
use Rattle.fragments.proofs.ByRule.{fragment_of-is, no-words-scored}
use Rattle.fragments.proofs.Check.{fragment_from_passes, fragments_pass}
use Rattle.fragments.proofs.Crossing.{packed-back}
use Rattle.fragment_scoring.specs.Outcome.{fragment_outcome, SameResult}
use Rattle.fragment_scoring.proofs.Outcome.{shown, fragment_outcome-is, fragment_outcome_too_many, scored-few, few-kept, nothing-scored}
use Rattle.joining.specs.Outcome.{join_outcome}
use Rattle.joining.specs.Bracketing.{Bracketing, piece, both, Begun, at-start, onto, words_in, words_since, evaluate, all_accepted, evaluate_since}
use Rattle.joining.proofs.Outcome.{joined-few, joined-many, joined-scored}

module _ (S : Store) (W : Whole S) (A : AcceptedModel (model_in S)) where
  abbrev M : Model
  M = model_in S

  -- ---- nothing is refused

  evaluate-few : (t : Bracketing) → length (words_in t) ≤ run_limit → evaluate (Some S) t ≡ shown (fragment_of M (words_in t))
  unfolding evaluate words_in
  evaluate-few (piece ws) few = fragment_outcome-is S W A ws few
  evaluate-few (both t u) few =
      let size : length (words_in t ++ words_in u) ≡ length (words_in t) + length (words_in u) = length-append (words_in t) (words_in u) in
      ap₂ (λ (a b : Joined). join_outcome (Some S) a.fragment b.fragment) (evaluate-few t (omega arith)) (evaluate-few u (omega arith))
      ∙ joined-scored S W A (words_in t) (words_in u)
      ∙ fragment_outcome-is S W A (words_in t ++ words_in u) few

  evaluate-both : (t u : Bracketing) → length (words_in t) ≤ run_limit → length (words_in u) ≤ run_limit → evaluate (Some S) (both t u) ≡ fragment_outcome (Some S) (words_in (both t u))
  unfolding evaluate words_in
  evaluate-both t u few fewer =
      ap₂ (λ (a b : Joined). join_outcome (Some S) a.fragment b.fragment) (evaluate-few t few) (evaluate-few u fewer)
      ∙ joined-scored S W A (words_in t) (words_in u)

  -- then all the words are no more than a run may have
  all_accepted-few : (t : Bracketing) → all_accepted (Some S) t ≡ true → length (words_in t) ≤ run_limit
  unfolding all_accepted
  all_accepted-few (piece ws) e = unfold words_in evaluate in scored-few S W A ws (eqb-true _ 0 e)
  all_accepted-few (both t u) e =
      scored-few S W A (words_in (both t u))
      (ap (λ (j : Joined). j.number) (sym (evaluate-both t u (all_accepted-few t (and_left first second sides)) (all_accepted-few u (and_right first second sides))))
      ∙ eqb-true _ 0 (and_left (eqb (evaluate (Some S) (both t u)).number 0) (first && second) e))
    where
      first : Bool
      first = all_accepted (Some S) t

      second : Bool
      second = all_accepted (Some S) u

      sides : (first && second) ≡ true
      sides = and_right (eqb (evaluate (Some S) (both t u)).number 0) (first && second) e

  -- and where they are no more, nothing is refused
  pub few-all_accepted : (t : Bracketing) → length (words_in t) ≤ run_limit → all_accepted (Some S) t ≡ true
  unfolding all_accepted
  few-all_accepted (piece ws) few = ap (λ (j : Joined). eqb j.number 0) (evaluate-few (piece ws) few)
  few-all_accepted (both t u) few =
      let size : length (words_in (both t u)) ≡ length (words_in t) + length (words_in u) = unfold words_in in length-append (words_in t) (words_in u) in
      and_both (eqb (evaluate (Some S) (both t u)).number 0) _ (ap (λ (j : Joined). eqb j.number 0) (evaluate-few (both t u) few))
      (and_both (all_accepted (Some S) t) (all_accepted (Some S) u) (few-all_accepted t (omega arith)) (few-all_accepted u (omega arith)))

  -- "However a sentence is bracketed, the result is the same wherever" nothing in it is refused: that of its words scored as one fragment
  pub any_bracketing : (t : Bracketing) → all_accepted (Some S) t ≡ true → evaluate (Some S) t ≡ fragment_outcome (Some S) (words_in t)
  any_bracketing t e =
      let few : length (words_in t) ≤ run_limit = all_accepted-few t e in
      evaluate-few t few ∙ sym (fragment_outcome-is S W A (words_in t) few)

  -- ---- what is refused

  -- a fragment that scoring returned, refused or not, is one of words
  returned-scored : (ws : List ℕ) → (us : List ℕ) × ((fragment_outcome (Some S) ws).fragment ≡ to_numbers (packed (fragment_of M us)))
  returned-scored ws = go (lt_or_ge run_limit (length ws))
    where
      go : (run_limit < length ws) ⊎ (length ws ≤ run_limit) → (us : List ℕ) × ((fragment_outcome (Some S) ws).fragment ≡ to_numbers (packed (fragment_of M us)))
      go (inl many) = ([], ap (λ (j : Joined). j.fragment) (fragment_outcome_too_many S W A ws many) ∙ ap to_numbers (nothing-scored S W A))
      go (inr few) = (ws, ap (λ (j : Joined). j.fragment) (fragment_outcome-is S W A ws few))

  -- the scoring of some words
  abbrev Scoring : Joined → Type 0
  Scoring j = (ws : List ℕ) × (j ≡ fragment_outcome (Some S) ws)

  -- whatever is refused in a bracketing, it comes to one
  evaluate_scores : (t : Bracketing) → Scoring (evaluate (Some S) t)
  unfolding evaluate
  evaluate_scores (piece ws) = (ws, refl)
  evaluate_scores (both t u) = go (evaluate_scores t) (evaluate_scores u)
    where
      go : Scoring (evaluate (Some S) t) → Scoring (evaluate (Some S) u) → Scoring (evaluate (Some S) (both t u))
      go (us, e) (vs, f) = (
        (returned-scored us).0 ++ (returned-scored vs).0,
        ap₂ (λ (a b : Numbers). join_outcome (Some S) a b) (ap (λ (j : Joined). j.fragment) e ∙ (returned-scored us).1) (ap (λ (j : Joined). j.fragment) f ∙ (returned-scored vs).1)
            ∙ joined-scored S W A (returned-scored us).0 (returned-scored vs).0,
      )

  -- so no fragment that scoring and joining return meets 21
  pub bracketings_pass : (t : Bracketing) → fragment_ok S.order (fragment_in (evaluate (Some S) t).fragment) ≡ true
  bracketings_pass t = go (evaluate_scores t)
    where
      go : Scoring (evaluate (Some S) t) → fragment_ok S.order (fragment_in (evaluate (Some S) t).fragment) ≡ true
      go (ws, e) =
          let us = (returned-scored ws).0 in
          ap (λ (f : Numbers). fragment_ok S.order (fragment_in f)) (ap (λ (j : Joined). j.fragment) e ∙ (returned-scored ws).1)
          ∙ ap (fragment_ok S.order) (packed-back (fragment_of M us) (unfold fragment_of in few-kept S W A _ us))
          ∙ (unfold model_in in fragments_pass M A us)

  -- and 14 alone refuses anything
  pub only_too_many_refused : (t : Bracketing) → ((evaluate (Some S) t).number ≡ 0) ⊎ (evaluate (Some S) t ≡ crossed (refused_by word_count 0))
  only_too_many_refused t = go (evaluate_scores t)
    where
      go : Scoring (evaluate (Some S) t) → ((evaluate (Some S) t).number ≡ 0) ⊎ (evaluate (Some S) t ≡ crossed (refused_by word_count 0))
      go (ws, e) = by_length (lt_or_ge run_limit (length ws))
        where
          by_length : (run_limit < length ws) ⊎ (length ws ≤ run_limit) → ((evaluate (Some S) t).number ≡ 0) ⊎ (evaluate (Some S) t ≡ crossed (refused_by word_count 0))
          by_length (inl many) = inr (e ∙ fragment_outcome_too_many S W A ws many)
          by_length (inr few) = inl (ap (λ (j : Joined). j.number) (e ∙ fragment_outcome-is S W A ws few))

  -- ---- begun with start's state

  evaluate_since-few : (x : Begun) → length (words_since x) ≤ run_limit → evaluate_since (Some S) (nine (start M)) x ≡ shown (fragment_from M (start M) (words_since x))
  unfolding evaluate_since words_since no_words packed
  evaluate_since-few x few = rw (start-is-after M A) (go x few)
    where
      s : State
      s = after M (start_word ∷ [])

      go : (x : Begun) → length (words_since x) ≤ run_limit → evaluate_since (Some S) (nine s) x ≡ shown (fragment_from M s (words_since x))
      go at-start few = ap shown (sym (no-words-scored M s))
      go (onto x t) few =
          let size : length (words_since x ++ words_in t) ≡ length (words_since x) + length (words_in t) = length-append (words_since x) (words_in t) in
          ap₂ (λ (a b : Joined). join_outcome (Some S) a.fragment b.fragment) (go x (omega arith)) (evaluate-few t (omega arith))
          ∙ joined-few S W A (start_word ∷ []) (words_since x) (words_in t) few

  begun_scores : to_numbers (no_words (nine (start M))) ≡ to_numbers (packed (fragment_from M (after M (start_word ∷ [])) []))
  unfolding no_words packed
  begun_scores =
      ap (λ (s : State). to_numbers (packed (no_words s))) (start-is-after M A)
      ∙ ap (λ (f : Fragment State). to_numbers (packed f)) (sym (no-words-scored M (after M (start_word ∷ []))))

  -- words that are scored after some history
  abbrev ScoredAfter : Numbers → Type 0
  ScoredAfter f = (h : List ℕ) × ((ws : List ℕ) × (f ≡ to_numbers (packed (fragment_from M (after M h) ws))))

  -- whatever is refused in it, it comes to such, and so does not meet 21
  since_scores : (x : Begun) → ScoredAfter (evaluate_since (Some S) (nine (start M)) x).fragment
  unfolding evaluate_since
  since_scores at-start = (start_word ∷ [], ([], begun_scores))
  since_scores (onto x t) = go (since_scores x) (evaluate_scores t)
    where
      go : ScoredAfter (evaluate_since (Some S) (nine (start M)) x).fragment → Scoring (evaluate (Some S) t) → ScoredAfter (join_outcome (Some S) (evaluate_since (Some S) (nine (start M)) x).fragment (evaluate (Some S) t).fragment).fragment
      go (h, (us, e)) (ws, f) = by_length (lt_or_ge run_limit (length (us ++ vs)))
        where
          vs : List ℕ
          vs = (returned-scored ws).0

          joined : join_outcome (Some S) (evaluate_since (Some S) (nine (start M)) x).fragment (evaluate (Some S) t).fragment ≡ join_outcome (Some S) (to_numbers (packed (fragment_from M (after M h) us))) (to_numbers (packed (fragment_of M vs)))
          joined = ap₂ (λ (a b : Numbers). join_outcome (Some S) a b) e (ap (λ (j : Joined). j.fragment) f ∙ (returned-scored ws).1)

          by_length : (run_limit < length (us ++ vs)) ⊎ (length (us ++ vs) ≤ run_limit) → ScoredAfter (join_outcome (Some S) (evaluate_since (Some S) (nine (start M)) x).fragment (evaluate (Some S) t).fragment).fragment
          by_length (inl many) = ([], ([], ap (λ (j : Joined). j.fragment) (joined ∙ joined-many S W A h us vs many) ∙ ap to_numbers (nothing-scored S W A ∙ ap packed (fragment_of-is M []))))
          by_length (inr few) = (h, (us ++ vs, ap (λ (j : Joined). j.fragment) (joined ∙ joined-few S W A h us vs few)))

  pub since_passes : (x : Begun) → fragment_ok S.order (fragment_in (evaluate_since (Some S) (nine (start M)) x).fragment) ≡ true
  since_passes x = go (since_scores x)
    where
      go : ScoredAfter (evaluate_since (Some S) (nine (start M)) x).fragment → fragment_ok S.order (fragment_in (evaluate_since (Some S) (nine (start M)) x).fragment) ≡ true
      go (h, (ws, e)) =
          ap (λ (f : Numbers). fragment_ok S.order (fragment_in f)) e
          ∙ ap (fragment_ok S.order) (packed-back (fragment_from M (after M h) ws) (few-kept S W A (after M h) ws))
          ∙ (unfold model_in in fragment_from_passes M A h ws)

  -- a run that is accepted, from the state that start returned
  module _ (r : Run) (l : List ℤ) (e : accepted r ≡ true) (n : length l ≡ 9) where
    run-from-start : run_outcome (Some S) (start_outcome (Some S) l).state r ≡ accepted_run (nine (run_end M (start M) r.words)) (run_points M (start M) r.words) (run_bytes M (start M) r.words) r
    run-from-start =
        ap (λ (t : Started). run_outcome (Some S) t.state r) (start_outcome-is S W l n)
        ∙ rw (start-is-after M A) (run_outcome-is S W A (start_word ∷ []) r ∙ (unfold packedAnswer run accepted_run in rw e))

    -- "joining it after an empty one with start's state gives the run's result", and so does any bracketing that begins there
    pub any_bracketing_since : (x : Begun) → words_since x ≡ r.words → SameResult (evaluate_since (Some S) (start_outcome (Some S) l).state x) (run_outcome (Some S) (start_outcome (Some S) l).state r)
    any_bracketing_since x w = rw (since, run-from-start) (unfold packed fragment_from accepted_run in record { number = refl; place = refl; total = refl; state = numbers-state_from _ (length-nine (run_end M (start M) r.words)) })
      where
        since : evaluate_since (Some S) (start_outcome (Some S) l).state x ≡ shown (fragment_from M (start M) r.words)
        since =
            ap (λ (t : Started). evaluate_since (Some S) t.state x) (start_outcome-is S W l n)
            ∙ evaluate_since-few x (rw w (fits r (eqb-true _ 0 (unfold accepted in e))).few)
            ∙ ap (λ (ws : List ℕ). shown (fragment_from M (start M) ws)) w
