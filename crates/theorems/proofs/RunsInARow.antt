-- Demand 3 over the outcomes of build, start, run and plain scoring. Assumes nothing.
use Rattle.std.specs.declared.option.Option.{Option}
use Rattle.std.specs.declared.option.Option.TheVariants.{Some}
use mathlib.Core.Path.{◌≡◌, refl, sym, ap, ap₂, subst, ◌∙◌}
use mathlib.Core.Bool.{Bool, true, false, cond}
use mathlib.Core.List.{List, [], ◌∷◌, map}
use Prim.Native.Nat.{ℕ}
use lib.ListN.{length}
use lib.IntN.{ℤ, ◌+ℤ◌}
use borrow.Author.Tests.{eqb-true, eq-eqb}
use Rattle.backoff.specs.Model.{Model, AcceptedModel}
use Rattle.backoff.specs.State.{State}
use Rattle.backoff.specs.Run.{Run, Answer, refusal, accepted, refused_run, accepted_run, run, first, plain}
use Rattle.backoff.specs.Runs.{standing, answers, last_state, standing_points, standing_lengths, totals}
use Rattle.backoff.specs.NineNumbers.{nine}
use Rattle.backoff.specs.Store.{Store, Started, model_in, run_outcome}
use Rattle.backoff.specs.Refusal.{Accepted}
use Rattle.backoff.proofs.NineNumbers.{first-nine}
use Rattle.backoff.proofs.Runs.{in_a_row, equal_ends_score_alike}
use Rattle.backoff.proofs.Store.{Whole, packed, answers_over_a_store, last_state_over_a_store, standing_points_over_a_store, standing_lengths_over_a_store, start_outcome-is, run_outcome_blind}
use Rattle.list.specs.Check.{verdict}
use Rattle.list.specs.ListModel.{model_of}
use Rattle.list.proofs.ListModel.{accepted-model}
use Rattle.double_array.specs.DoubleArray.{store_in}
use Rattle.double_array.proofs.DoubleArray.{opened_some}
use Rattle.placed_list.specs.Build.{Built}
use Rattle.build.specs.Build.{build_outcome}
use Rattle.build.proofs.Built.{build_accepted, build_holds}
use Rattle.plain.specs.Plain.{plain_outcome}
use Rattle.theorems.specs.RunsInARow.{array_of, first_state, RunsInARow, end_of, EqualStatesScoreAlike}

-- ---- the numbers of runs over a model

refusal-accepted : (r : Run) → refusal r ≡ 0 → accepted r ≡ true
unfolding accepted
refusal-accepted r e = eq-eqb (refusal r) 0 e

-- a run's number is 14, 15 or 0 by its own words and slices
cond-number : {S : Type 0} (r : Run) (x : Answer S) (s : S) → x.number ≡ 0 → (cond (accepted r) x (refused_run (refusal r) 0 s r)).number ≡ refusal r
cond-number r x s z = go (accepted r) refl
  where
    go : (b : Bool) → accepted r ≡ b → (cond b x (refused_run (refusal r) 0 s r)).number ≡ refusal r
    go true e = z ∙ sym (eqb-true (refusal r) 0 (unfold accepted in e))
    go false e = unfold refused_run in refl

cond-place : {S : Type 0} (r : Run) (x : Answer S) (s : S) → x.place ≡ 0 → (cond (accepted r) x (refused_run (refusal r) 0 s r)).place ≡ 0
cond-place r x s z = go (accepted r)
  where
    go : (b : Bool) → (cond b x (refused_run (refusal r) 0 s r)).place ≡ 0
    go true = z
    go false = unfold refused_run in refl

module _ (M : Model) where
  numbers_are : (s : State) (rs : List Run) → map (λ a. a.number) (map packed (answers (run M) s rs)) ≡ map refusal rs
  unfolding answers packed
  numbers_are s [] = refl
  numbers_are s (r ∷ rs) = ap₂ (λ (n : ℕ) (l : List ℕ). n ∷ l) (unfold run accepted_run in cond-number r _ _ refl) (numbers_are (run M s r).end rs)

  places_are : (s : State) (rs : List Run) → map (λ a. a.place) (map packed (answers (run M) s rs)) ≡ map (λ r. 0) rs
  unfolding answers packed
  places_are s [] = refl
  places_are s (r ∷ rs) = ap₂ (λ (n : ℕ) (l : List ℕ). n ∷ l) (unfold run accepted_run in cond-place r _ _ refl) (places_are (run M s r).end rs)

  pub plain-number : (b : Bool) (r : Run) → (plain M b r).number ≡ refusal r
  unfolding plain accepted_run
  plain-number b r = cond-number r _ _ refl

totals-packed : (as' : List (Answer State)) → totals (map packed as') ≡ totals as'
unfolding totals packed
totals-packed [] = refl
totals-packed (a ∷ as') = ap (λ (z : ℤ). a.total +ℤ z) (totals-packed as')

-- ---- over a store with no broken node, whose rows are an accepted list

module _ (S : Store) (W : Whole S) (A : AcceptedModel (model_in S)) (started : Bool) (lent : List ℤ) (nine-long : length lent ≡ 9) (rs : List Run) where
  abbrev M : Model
  M = model_in S

  first-state : first_state (Some S) started lent ≡ nine (first M started)
  first-state = go started
    where
      go : (b : Bool) → first_state (Some S) b lent ≡ nine (first M b)
      go true = unfold first_state first in ap (λ (s : Started). s.state) (start_outcome-is S W lent nine-long)
      go false = unfold first_state in sym (first-nine M)

  -- what the runs return and leave is what they do over the model
  pub returned-is : answers (run_outcome (Some S)) (first_state (Some S) started lent) rs ≡ map packed (answers (run M) (first M started) rs)
  returned-is = ap (λ (l : List ℤ). answers (run_outcome (Some S)) l rs) first-state ∙ answers_over_a_store S W A started rs

  pub points_are : standing_points (run_outcome (Some S)) (first_state (Some S) started lent) rs ≡ standing_points (run M) (first M started) rs
  points_are = ap (λ (l : List ℤ). standing_points (run_outcome (Some S)) l rs) first-state ∙ standing_points_over_a_store S W A started rs

  pub lengths_are : standing_lengths (run_outcome (Some S)) (first_state (Some S) started lent) rs ≡ standing_lengths (run M) (first M started) rs
  lengths_are = ap (λ (l : List ℤ). standing_lengths (run_outcome (Some S)) l rs) first-state ∙ standing_lengths_over_a_store S W A started rs

  pub last-is : last_state (run_outcome (Some S)) (first_state (Some S) started lent) rs ≡ nine (last_state (run M) (first M started) rs)
  last-is = ap (λ (l : List ℤ). last_state (run_outcome (Some S)) l rs) first-state ∙ last_state_over_a_store S W A started rs

  standing-plain : {X : Type 0} (r : Run) (slice : List X) → refusal r ≡ 0 → standing 0 r slice ≡ standing (plain M started r).number r slice
  standing-plain r slice e = ap (λ (n : ℕ). standing n r slice) (sym (plain-number M started r ∙ e))

  store_in_a_row : RunsInARow (Some S) M started lent rs (plain M started)
  store_in_a_row =
      let row = in_a_row M A started rs in
      record {
        scored = record {
          start = ap (λ (s : Started). s.number) (start_outcome-is S W lent nine-long);
          refusals = rw returned-is (numbers_are M (first M started) rs);
          places = rw returned-is (places_are M (first M started) rs);
          each-points = λ i l. rw points_are (row.each-points i l);
          points = rw points_are row.points;
          total = rw returned-is (totals-packed _ ∙ row.total);
        };
        each-length = λ i l. rw lengths_are (row.each_byte i l);
        lengths = rw lengths_are row.lengths;
        state = last-is ∙ ap nine row.state;
        plain-refusal = plain-number M started;
        plain-points = λ r w e. rw points_are (standing-plain r _ e ∙ row.plain-points r w (refusal-accepted r e));
        plain-lengths = λ r w e. rw lengths_are (standing-plain r _ e ∙ row.plain-lengths r w (refusal-accepted r e));
        plain-total = λ r w e. rw returned-is (row.plain-total r w (refusal-accepted r e) ∙ sym (totals-packed _));
      }

-- plain scoring over an accepted list is the rule over its model
pub plain-accepted : (table : List ℤ) (b : Bool) (M : Model) → verdict table ≡ Accepted → M ≡ model_of table → plain M b ≡ plain_outcome table b
unfolding plain_outcome
plain-accepted table b M v e = λ i r. each r i
  where
    each : (r : Run) → plain M b r ≡ plain_outcome table b r
    each r = rw v (ap (λ (N : Model). plain N b r) e)

-- ---- over the array that an accepted build left

module _ (table base check : List ℤ) (work : List ℕ) (built : (build_outcome table base check work).answer ≡ Accepted) where
  abbrev left : Built
  left = build_outcome table base check work

  -- "Runs in a row"
  pub runs_in_a_row : (started : Bool) (lent : List ℤ) → length lent ≡ 9 → (rs : List Run) → RunsInARow (array_of left) (model_of table) started lent rs (plain_outcome table started)
  runs_in_a_row started lent nine-long rs =
      let holds = build_holds table base check work built in
      let accepted-list = (build_accepted table base check work built).accepted in
      let S = store_in left.base left.check in
      let opens : array_of left ≡ Some S = unfold array_of in opened_some left.base left.check holds.array in
      let A : AcceptedModel (model_in S) = rw holds.model (accepted-model table accepted-list) in
      rw opens
      (subst (λ (M : Model). RunsInARow (Some S) M started lent rs (plain_outcome table started)) holds.model
      (subst (λ (p : Run → Answer (Unit {0})). RunsInARow (Some S) (model_in S) started lent rs p) (plain-accepted table started (model_in S) accepted-list holds.model)
      (store_in_a_row S holds.whole A started lent nine-long rs)))

-- over any array at all
pub equal_states_score_alike : (array : Option Store) → EqualStatesScoreAlike array
unfolding end_of
equal_states_score_alike array h k e rs qs l =
    equal_ends_score_alike (run_outcome_blind array) (first_state array h.started h.lent) (first_state array k.started k.lent) h.runs k.runs e l
