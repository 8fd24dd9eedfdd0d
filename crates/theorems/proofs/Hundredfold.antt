-- A list in the older points, taken over: every score is 100 times the earlier one. Assumes nothing.
use Rattle.std.specs.declared.option.Option.TheVariants.{Some}
use mathlib.Core.Path.{◌≡◌, refl, sym, ap, subst, ◌∙◌}
use mathlib.Core.Logic.{◌⊎◌, inl, inr}
use mathlib.Core.Bool.{Bool, false}
use mathlib.Core.List.{List, [], ◌∷◌, map}
use Prim.Native.Nat.{ℕ, ◌<◌, ◌≤◌}
use native.Mathlib.Omega.{arith}
use lib.ListN.{length}
use lib.IntN.{ℤ}
use Rattle.integer.specs.Integer.{sum}
use Rattle.integer.proofs.Ranges.{lt_or_ge}
use Rattle.backoff.specs.Limits.{run_limit}
use Rattle.backoff.specs.Refusal.{word_count}
use Rattle.backoff.specs.Model.{Model, AcceptedModel, reach}
use Rattle.backoff.specs.Rule.{Score, rule, rule_byte}
use Rattle.backoff.specs.State.{State, empty}
use Rattle.backoff.specs.Run.{Run, Answer, run_points, run_end, run, first, plain}
use Rattle.backoff.specs.Runs.{answers, last_state, AllAlike}
use Rattle.backoff.specs.NineNumbers.{padded, nine, nine_zeros}
use Rattle.backoff.proofs.NineNumbers.{length-nine}
use Rattle.backoff.specs.Store.{Store, model_in, run_outcome}
use Rattle.backoff.specs.Refusal.{Accepted}
use Rattle.backoff.proofs.Store.{Whole, packed}
use Rattle.list.specs.Check.{verdict}
use Rattle.list.specs.ListModel.{model_of}
use Rattle.list.proofs.ListModel.{accepted-model}
use Rattle.double_array.specs.DoubleArray.{store_in}
use Rattle.double_array.proofs.DoubleArray.{opened_some}
use Rattle.build.specs.Build.{build_outcome}
use Rattle.build.proofs.Built.{build_accepted, build_holds}
use Rattle.build.proofs.Found.{found_exactly_if_listed}
use Rattle.carried_state.proofs.Carried.{numbers-state_from}
use Rattle.fragments.specs.Fragment.{packed as packedFragment, no_words, fragment_from, fragment_of}
use Rattle.fragments.specs.Outcome.{refused_by, crossed}
use Rattle.fragment_scoring.specs.Outcome.{fragment_outcome}
use Rattle.fragment_scoring.proofs.Outcome.{shown, fragment_outcome-is, fragment_outcome_too_many}
use Rattle.plain.specs.Plain.{plain_outcome}
use Rattle.finer.specs.Times.{times, times_model, times_score, times_state, times_nine, AnsweredTimes, ScoreTimes}
use Rattle.finer.specs.FinerList.{OlderPoints, taken_over, times_lookup}
use Rattle.finer.proofs.Products.{times_zero, sum-times}
use Rattle.finer.proofs.Times.{rule-times, rule_byte-times, run_points-times, run_end-times, plain-times, runs_over_times, nine-times}
use Rattle.finer.proofs.FinerList.{taken_over-verdict, taken_over-model, lookup_times}
use Rattle.finer.proofs.Builds.{built-answers-alike, built-slots-alike}
use Rattle.theorems.specs.RunsInARow.{array_of, first_state}
use Rattle.theorems.specs.Hundredfold.{BuiltFrom, array_from, FragmentTimes, Hundredfold}
use Rattle.theorems.proofs.RunsInARow.{returned-is, points_are, lengths_are, last-is, plain-accepted}

-- ---- answers whose states are nine numbers

packed-numbers : (as' : List (Answer State)) → map (λ a. a.number) (map packed as') ≡ map (λ a. a.number) as'
unfolding packed
packed-numbers [] = refl
packed-numbers (a ∷ as') = ap (λ (l : List ℕ). a.number ∷ l) (packed-numbers as')

packed-places : (as' : List (Answer State)) → map (λ a. a.place) (map packed as') ≡ map (λ a. a.place) as'
unfolding packed
packed-places [] = refl
packed-places (a ∷ as') = ap (λ (l : List ℕ). a.place ∷ l) (packed-places as')

packed-totals : (as' : List (Answer State)) → map (λ a. a.total) (map packed as') ≡ map (λ a. a.total) as'
unfolding packed
packed-totals [] = refl
packed-totals (a ∷ as') = ap (λ (l : List ℤ). a.total ∷ l) (packed-totals as')

packed_ends : (as' : List (Answer State)) → map (λ a. a.end) (map packed as') ≡ map nine (map (λ a. a.end) as')
unfolding packed
packed_ends [] = refl
packed_ends (a ∷ as') = ap (λ (l : List (List ℤ)). nine a.end ∷ l) (packed_ends as')

nines_times : (k : ℕ) (ss : List State) → map nine (map (times_state k) ss) ≡ map (times_nine k) (map nine ss)
nines_times k [] = refl
nines_times k (s ∷ ss) = rw (nine-times k s, nines_times k ss) refl

-- ---- over two stores with no broken node, whose rows are accepted lists, the one's multiplied

module _ (k : ℕ) (some-k : 0 < k) (S F : Store) (W : Whole S) (X : Whole F) (A : AcceptedModel (model_in S)) (B : AcceptedModel (model_in F)) (multiplied : model_in F ≡ times_model k (model_in S))
    (started : Bool) (lent lentF : List ℤ) (n : length lent ≡ 9) (m : length lentF ≡ 9) (rs qs : List Run) (l : AllAlike rs qs) where
  over_models : ScoreTimes k (times_state k) (run (model_in S)) (run (model_in F)) (first (model_in S) started) (first (model_in F) started) rs qs
  over_models =
      subst (λ (M : Model). ScoreTimes k (times_state k) (run (model_in S)) (run M) (first (model_in S) started) (first M started) rs qs) (sym multiplied)
      (runs_over_times k some-k (model_in S) started l)

  -- what the runs over the two models return
  abbrev old : List (Answer State)
  old = answers (run (model_in S)) (first (model_in S) started) rs

  abbrev new : List (Answer State)
  new = answers (run (model_in F)) (first (model_in F) started) qs

  over_stores : ScoreTimes k (times_nine k) (run_outcome (Some S)) (run_outcome (Some F)) (first_state (Some S) started lent) (first_state (Some F) started lentF) rs qs
  over_stores =
      let o = over_models in
      let a = returned-is S W A started lent n rs in
      let f = returned-is F X B started lentF m qs in
      record {
        numbers = rw (a, f) (packed-numbers new ∙ o.numbers ∙ sym (packed-numbers old));
        places = rw (a, f) (packed-places new ∙ o.places ∙ sym (packed-places old));
        totals = rw (a, f) (packed-totals new ∙ o.totals ∙ ap (map (times k)) (sym (packed-totals old)));
        ends = rw (a, f) (packed_ends new ∙ ap (map nine) o.ends ∙ nines_times k (map (λ a. a.end) old) ∙ ap (map (times_nine k)) (sym (packed_ends old)));
        last =
            last-is F X B started lentF m qs ∙ ap nine o.last ∙ nine-times k (last_state (run (model_in S)) (first (model_in S) started) rs)
            ∙ ap (times_nine k) (sym (last-is S W A started lent n rs));
        points = points_are F X B started lentF m qs ∙ o.points ∙ ap (map (map (times k))) (sym (points_are S W A started lent n rs));
        lengths = lengths_are F X B started lentF m qs ∙ o.lengths ∙ sym (lengths_are S W A started lent n rs);
      }

-- ---- fragments

refused-fragment-times : (k : ℕ) → FragmentTimes k (crossed (refused_by word_count 0)) (crossed (refused_by word_count 0))
unfolding no_words
refused-fragment-times k =
    let zeros : nine_zeros ≡ times_nine k nine_zeros = unfold nine padded times_state in nine-times k empty in
    let numbers = numbers-state_from nine_zeros refl in
    record { number = refl; place = refl; total = sym (times_zero k); count = refl; kept = refl; first = refl; state = numbers ∙ zeros ∙ ap (times_nine k) (sym numbers) }

fragment-times : (k : ℕ) → 0 < k → (M : Model) (ws : List ℕ) → FragmentTimes k (shown (fragment_of M ws)) (shown (fragment_of (times_model k M) ws))
unfolding fragment_of fragment_from packedFragment reach times_model times_state
fragment-times k some-k M ws =
    record {
      number = refl;
      place = refl;
      total = ap sum (run_points-times k M some-k empty ws) ∙ sum-times k (run_points M empty ws);
      count = refl;
      kept = refl;
      first = refl;
      state =
          numbers-state_from (nine (run_end (times_model k M) empty ws)) (length-nine (run_end (times_model k M) empty ws))
          ∙ ap nine (run_end-times k M some-k empty ws)
          ∙ nine-times k (run_end M empty ws)
          ∙ ap (times_nine k) (sym (numbers-state_from (nine (run_end M empty ws)) (length-nine (run_end M empty ws))));
    }

fragments_over_stores : (k : ℕ) → 0 < k → (S F : Store) → Whole S → Whole F → AcceptedModel (model_in S) → AcceptedModel (model_in F) → model_in F ≡ times_model k (model_in S)
    → (ws : List ℕ) → FragmentTimes k (fragment_outcome (Some S) ws) (fragment_outcome (Some F) ws)
fragments_over_stores k some-k S F W X A B multiplied ws = go (lt_or_ge run_limit (length ws))
  where
    go : (run_limit < length ws) ⊎ (length ws ≤ run_limit) → FragmentTimes k (fragment_outcome (Some S) ws) (fragment_outcome (Some F) ws)
    go (inl many) = rw (fragment_outcome_too_many S W A ws many, fragment_outcome_too_many F X B ws many) (refused-fragment-times k)
    go (inr few) =
        rw (fragment_outcome-is S W A ws few, fragment_outcome-is F X B ws few)
        (subst (λ (M : Model). FragmentTimes k (shown (fragment_of (model_in S) ws)) (shown (fragment_of M ws))) (sym multiplied) (fragment-times k some-k (model_in S) ws))

-- ---- what a build leaves

record Left (table : List ℤ) (B : BuiltFrom table) : Type 0 where
  store : Store
  opens : array_from table B ≡ Some store
  whole : Whole store
  model : model_in store ≡ model_of table
  accepted-rows : AcceptedModel (model_in store)

left : (table : List ℤ) (B : BuiltFrom table) → Left table B
left table B =
    let holds = build_holds table B.base B.check B.work B.built in
    let o = build_outcome table B.base B.check B.work in
    record {
      store = store_in o.base o.check;
      opens = unfold array_of in opened_some o.base o.check holds.array;
      whole = holds.whole;
      model = holds.model;
      accepted-rows = rw holds.model (accepted-model table (build_accepted table B.base B.check B.work B.built).accepted);
    }

pub hundredfold : (table : List ℤ) → verdict table ≡ Accepted → OlderPoints table → Hundredfold table
hundredfold table ok older =
    let taken = taken_over-verdict table older false ∙ ok in
    let same-model = taken_over-model table in
    record {
      accepted = taken;
      model = same-model;
      points = λ h w. ap (λ (M : Model). (rule M h w).points) same-model ∙ (unfold times_score in ap (λ (s : Score). s.points) (rule-times 100 (model_of table) h w));
      bytes = λ h w. ap (λ (M : Model). rule_byte M h w) same-model ∙ rule_byte-times 100 (model_of table) h w;
      builds = built-answers-alike table older;
      slots = built-slots-alike table older;
      lookups = λ B F ws.
          found_exactly_if_listed (taken_over table) F.base F.check F.work ws F.built ∙ lookup_times 100 table ws
          ∙ ap (times_lookup 100) (sym (found_exactly_if_listed table B.base B.check B.work ws B.built));
      runs = λ B F started lent lentF n m rs qs l.
          let b = left table B in
          let f = left (taken_over table) F in
          rw (b.opens, f.opens)
          (over_stores 100 (omega arith) b.store f.store b.whole f.whole b.accepted-rows f.accepted-rows (f.model ∙ same-model ∙ ap (times_model 100) (sym b.model)) started lent lentF n m rs qs l);
      plain = λ started r q a.
          subst (λ (p : Run → Answer (Unit {0})). AnsweredTimes 100 (λ (u : Unit {0}). u) r q (p r) (plain_outcome (taken_over table) started q)) (plain-accepted table started (model_of table) ok refl)
          (subst (λ (p : Run → Answer (Unit {0})). AnsweredTimes 100 (λ (u : Unit {0}). u) r q (plain (model_of table) started r) (p q)) (plain-accepted (taken_over table) started (times_model 100 (model_of table)) taken (sym same-model))
          (plain-times 100 (model_of table) started a));
      fragments = λ B F ws.
          let b = left table B in
          let f = left (taken_over table) F in
          rw (b.opens, f.opens)
          (fragments_over_stores 100 (omega arith) b.store f.store b.whole f.whole b.accepted-rows f.accepted-rows (f.model ∙ same-model ∙ ap (times_model 100) (sym b.model)) ws);
    }
