-- Fragments over the array that an accepted build left, by the outcomes of the calls: request T-06. Assumes nothing.
use Rattle.std.specs.declared.option.Option.{Option}
use Rattle.std.specs.declared.option.Option.TheVariants.{Some}
use mathlib.Core.Path.{◌≡◌, refl, sym, ap, ◌∙◌}
use mathlib.Core.Logic.{◌⊎◌}
use mathlib.Core.Bool.{true}
use mathlib.Core.List.{List, [], ◌++◌}
use Prim.Native.Nat.{ℕ, ◌≤◌}
use lib.ListN.{length, take}
use lib.IntN.{ℤ}
use Rattle.integer.specs.Integer.{sum}
use Rattle.backoff.specs.Limits.{run_limit}
use Rattle.backoff.specs.Refusal.{word_count}
use Rattle.backoff.specs.Model.{Model, AcceptedModel, reach}
use Rattle.backoff.specs.Rule.{rule_points, history}
use Rattle.backoff.specs.State.{after}
use Rattle.backoff.specs.Run.{Run, accepted}
use Rattle.backoff.specs.NineNumbers.{nine}
use Rattle.backoff.specs.Store.{Store, Started, model_in, start_outcome, run_outcome}
use Rattle.backoff.specs.Refusal.{Accepted}
use Rattle.backoff.proofs.Store.{Whole, start_outcome-is}
use Rattle.list.specs.ListModel.{model_of}
use Rattle.list.proofs.ListModel.{accepted-model}
use Rattle.double_array.specs.DoubleArray.{store_in}
use Rattle.double_array.proofs.DoubleArray.{opened_some}
use Rattle.placed_list.specs.Build.{Built}
use Rattle.build.specs.Build.{build_outcome}
use Rattle.build.proofs.Built.{build_accepted, build_holds}
use Rattle.fragments.specs.Fragment.{packed, fragment_ok}
use Rattle.fragments.specs.Outcome.{returned, refused_by, fragment_in, crossed}
use Rattle.fragments.proofs.ByRule.{fragment_of-is, fragment_by_rule}
use Rattle.fragment_scoring.specs.Outcome.{fragment_outcome, SameResult}
use Rattle.fragment_scoring.proofs.Outcome as outcome
use Rattle.joining.specs.Outcome.{join_outcome}
use Rattle.joining.specs.Bracketing.{Bracketing, Begun, at-start, onto, piece, words_in, words_since, beginning, evaluate, evaluate_since, joins_accepted, all_accepted}
use Rattle.joining.proofs.Outcome as joined
use Rattle.joining.proofs.Bracketing as bracketing
use Rattle.joining.proofs.RefusedScoring as refused
use Rattle.theorems.specs.RunsInARow.{array_of}

module _ (table base check : List ℤ) (work : List ℕ) (built : (build_outcome table base check work).answer ≡ Accepted) where
  abbrev left : Built
  left = build_outcome table base check work

  -- the array that the build left, as the calls are lent it
  abbrev array : Option Store
  array = array_of left

  abbrev S : Store
  S = store_in left.base left.check

  opens : array ≡ Some S
  unfolding array_of
  opens = opened_some left.base left.check (build_holds table base check work built).array

  W : Whole S
  W = (build_holds table base check work built).whole

  same-model : model_in S ≡ model_of table
  same-model = (build_holds table base check work built).model

  A : AcceptedModel (model_in S)
  A = rw same-model (accepted-model table (build_accepted table base check work built).accepted)

  -- "Joining two neighbours gives what scoring the joined words as one fragment gives", its 14 too
  pub join-is_scoring : (us vs : List ℕ) → (fragment_outcome array us).number ≡ 0 → (fragment_outcome array vs).number ≡ 0 → join_outcome array (fragment_outcome array us).fragment (fragment_outcome array vs).fragment ≡ fragment_outcome array (us ++ vs)
  join-is_scoring = rw opens (joined.join-is_scoring S W A)

  -- "joining it after an empty one with start's state gives the run's result", and so does any bracketing that begins there
  pub any_bracketing_since : (r : Run) (lent : List ℤ) → accepted r ≡ true → length lent ≡ 9 → (x : Begun) → words_since x ≡ r.words → SameResult (evaluate_since array (start_outcome array lent).state x) (run_outcome array (start_outcome array lent).state r)
  any_bracketing_since = rw opens (bracketing.any_bracketing_since S W A)

  pub join-after-start : (r : Run) (lent : List ℤ) → accepted r ≡ true → length lent ≡ 9 → SameResult (join_outcome array (beginning (start_outcome array lent).state).fragment (fragment_outcome array r.words).fragment) (run_outcome array (start_outcome array lent).state r)
  unfolding evaluate_since evaluate words_since words_in
  join-after-start r lent e n = any_bracketing_since r lent e n (onto at-start (piece r.words)) refl

  -- "However a sentence is bracketed, the result is the same wherever" no scoring and no join in it is refused: that of its words in order
  pub any_bracketing : (t : Bracketing) → all_accepted array t ≡ true → evaluate array t ≡ fragment_outcome array (words_in t)
  any_bracketing = rw opens (bracketing.any_bracketing S W A)

  pub bracketings_agree : (t u : Bracketing) → all_accepted array t ≡ true → all_accepted array u ≡ true → words_in t ≡ words_in u → evaluate array t ≡ evaluate array u
  bracketings_agree t u e f w = any_bracketing t e ∙ ap (fragment_outcome array) w ∙ sym (any_bracketing u f)

  -- nothing in it is refused where all its words are no more than a run may have
  pub few-words-accepted : (t : Bracketing) → length (words_in t) ≤ run_limit → all_accepted array t ≡ true
  few-words-accepted = rw opens (bracketing.few-all_accepted S W A)

  -- and 14 is all that refuses a scoring or a join of what they returned
  pub only_too_many_refused : (t : Bracketing) → ((evaluate array t).number ≡ 0) ⊎ (evaluate array t ≡ crossed (refused_by word_count 0))
  only_too_many_refused = rw opens (bracketing.only_too_many_refused S W A)

  -- no fragment that scoring and joining return meets 21
  pub fragments_pass : (t : Bracketing) → fragment_ok (model_of table).order (fragment_in (evaluate array t).fragment) ≡ true
  fragments_pass = rw (opens, ap (λ (M : Model). M.order) (sym same-model)) (unfold model_in in bracketing.bracketings_pass S W A)

  pub fragments_pass_since : (lent : List ℤ) → length lent ≡ 9 → (x : Begun) → fragment_ok (model_of table).order (fragment_in (evaluate_since array (start_outcome array lent).state x).fragment) ≡ true
  fragments_pass_since lent n x =
      rw (opens, ap (λ (M : Model). M.order) (sym same-model), ap (λ (s : Started). s.state) (start_outcome-is S W lent n)) (unfold model_in in bracketing.since_passes S W A x)

  -- Over the published list, a fragment's total is the sum of the back-off rule's points without left context, and its state is the state after its words.
  pub fragment-is-the-rule : (ws : List ℕ) → (fragment_outcome array ws).number ≡ 0 → fragment_outcome array ws ≡ crossed (returned (record { total = sum (rule_points (model_of table) [] ws); first = take (reach (model_of table)) ws; count = length ws; end = nine (after (model_of table) (history (model_of table) [] ws)) }))
  fragment-is-the-rule ws e =
      rw opens
      (outcome.fragment_outcome-is S W A ws (outcome.scored-few S W A ws (rw opens at e))
      ∙ ap outcome.shown (fragment_of-is (model_in S) ws ∙ fragment_by_rule (model_in S) A [] ws)
      ∙ (unfold packed in ap (λ (M : Model). crossed (returned (record { total = sum (rule_points M [] ws); first = take (reach M) ws; count = length ws; end = nine (after M (history M [] ws)) }))) same-model))

  -- Document 02 asks only that no join in a bracketing is refused: that is not enough.
  pub not_by_joins_alone : ((t u : Bracketing) → joins_accepted array t ≡ true → joins_accepted array u ≡ true → words_in t ≡ words_in u → evaluate array t ≡ evaluate array u) → ⊥
  not_by_joins_alone = rw opens (refused.not_by_joins_alone S W A)
