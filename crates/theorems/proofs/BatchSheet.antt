-- The batch sheet over the outcomes of build and batch is the rule's. Assumes nothing.
use Rattle.std.specs.declared.option.Option.{Option}
use Rattle.std.specs.declared.option.Option.TheVariants.{Some}
use mathlib.Core.Path.{◌≡◌, refl, sym, ap, ap₂, ◌∙◌}
use mathlib.Core.Bool.{Bool, true, false, cond}
use mathlib.Core.List.{List, [], ◌∷◌, ◌++◌, map, append-nil}
use Prim.Native.Nat.{ℕ, zero, suc, ◌+◌, ◌-◌, ◌≤◌, ◌<◌}
use native.Mathlib.Omega.{arith}
use lib.Dec.{eqb}
use lib.ListN.{length, take, drop, get_or}
use lib.IntN.{ℤ, ◌+ℤ◌, +ℤ_idr}
use borrow.Author.Tests.{eq-eqb, eqb-true}
use Rattle.integer.specs.Integer.{sum}
use Rattle.backoff.specs.Limits.{run_limit}
use Rattle.backoff.specs.Refusal.{sentence_end}
use Rattle.backoff.specs.Model.{Model}
use Rattle.backoff.specs.Rule.{rule_points, rule_bytes}
use Rattle.backoff.specs.Counts.{has_matched, says_unknown, count}
use Rattle.backoff.specs.Run.{Run, refusal, accepted, front}
use Rattle.backoff.specs.Runs.{standing, flat, added, joined, answers, standing_points, standing_lengths, totals}
use Rattle.backoff.specs.NineNumbers.{nine_zeros}
use Rattle.backoff.specs.Store.{Store}
use Rattle.backoff.specs.Refusal.{Accepted}
use Rattle.backoff.proofs.Counts.{count-both}
use Rattle.list.specs.ListModel.{model_of}
use Rattle.double_array.specs.DoubleArray.{store_in, opened}
use Rattle.double_array.proofs.DoubleArray.{opened_some}
use Rattle.placed_list.specs.Build.{Built}
use Rattle.build.specs.Build.{build_outcome}
use Rattle.build.proofs.Built.{build_holds}
use Rattle.sentence_ends.specs.Ends.{last_end, bad_end, sheet_size, early_refusal}
use Rattle.sentence_ends.proofs.Ends.{good-end, good-last, last_end-next}
use Rattle.closed_sentence.specs.Sentence.{closing_run, words_run, closed, is_scored, sentence_total}
use Rattle.closed_sentence.proofs.Calls.{words_keep, none_refuses, closed-long}
use Rattle.stretches.specs.Stretches.{sentence, sentences, word_points, word_bytes, closing_bytes, total_of, first_refused}
use Rattle.stretches.proofs.Stretches.{length-stretch, map-sentences}
use Rattle.stretches.proofs.FirstRefused.{none-refused}
use Rattle.batch.specs.Sheet.{met, unknown_of, matched_of, accepted_sheet, scored_sheet, sheet_outcome}
use Rattle.batch.specs.Meaning.{FullRun}
use Rattle.batch.proofs.Outcome.{Passed, passed}
use Rattle.batch.proofs.Refusals.{fits-full}
use Rattle.batch.proofs.OwnRuns.{standing-whole}
use Rattle.plain.specs.Plain.{plain_outcome}
use Rattle.theorems.specs.RunsInARow.{array_of, first_state, RunsInARow}
use Rattle.theorems.specs.BatchSheet.{closed_words, sentence_points, sentence_bytes, closed_total, closed_bytes, SheetIsTheRule}
use Rattle.theorems.proofs.RunsInARow.{runs_in_a_row}

module _ (table base check : List ℤ) (work : List ℕ) (built : (build_outcome table base check work).answer ≡ Accepted) where
  abbrev left : Built
  left = build_outcome table base check work

  abbrev array : Option Store
  array = opened left.base left.check

  abbrev M : Model
  M = model_of table

  -- ---- one sentence: a run from start's state, and then the 3

  module _ (q : Run) (few : length q.words ≤ run_limit) (full : FullRun q) where
    one : RunsInARow array M true nine_zeros (q ∷ []) (plain_outcome table true)
    one = unfold array_of in runs_in_a_row table base check work built true nine_zeros refl (q ∷ [])

    two : RunsInARow array M true nine_zeros (q ∷ closing_run ∷ []) (plain_outcome table true)
    two = unfold array_of in runs_in_a_row table base check work built true nine_zeros refl (q ∷ closing_run ∷ [])

    none : refusal q ≡ 0
    none = fits-full q few full

    added_is : added q ≡ q.words
    unfolding added accepted
    added_is = rw (eq-eqb (refusal q) 0 none)

    joined-one : joined (q ∷ []) ≡ q.words
    unfolding joined flat
    joined-one = append-nil (added q) ∙ added_is

    joined-two : joined (q ∷ closing_run ∷ []) ≡ closed_words M q
    unfolding joined flat
    joined-two = ap (λ (ws : List ℕ). ws ++ (added closing_run ++ [])) added_is ∙ (unfold added accepted refusal in refl)

    words-number : (words_run array q).number ≡ 0
    unfolding words_run first_state answers
    words-number = ap (λ (l : List ℕ). get_or l 0 0) one.scored.refusals ∙ none

    closed-number : (closed array q).number ≡ 0
    unfolding closed words_run first_state answers
    closed-number = ap (λ (l : List ℕ). get_or l 1 0) two.scored.refusals ∙ (unfold refusal in refl)

    sentence-scored : is_scored array q ≡ true
    sentence-scored = none_refuses array q one.scored.start words-number closed-number

    points-standing : standing (words_run array q).number q (words_run array q).points ≡ (words_run array q).points
    points-standing = standing-whole q _ words-number ((words_keep array q).points ∙ full.points)

    lengths-standing : standing (words_run array q).number q (words_run array q).lengths ≡ (words_run array q).lengths
    lengths-standing = standing-whole q _ words-number ((words_keep array q).lengths ∙ full.lengths)

    closing_standing : standing (closed array q).number closing_run (closed array q).lengths ≡ (closed array q).lengths
    closing_standing = standing-whole closing_run _ closed-number (closed-long array q)

    sentence-points : (words_run array q).points ≡ sentence_points M q
    unfolding words_run first_state standing_points flat
    sentence-points = sym (append-nil _ ∙ points-standing) ∙ one.scored.points ∙ ap (rule_points M (front true)) joined-one

    sentence-bytes : (words_run array q).lengths ≡ sentence_bytes M q
    unfolding words_run first_state standing_lengths flat
    sentence-bytes = sym (append-nil _ ∙ lengths-standing) ∙ one.lengths ∙ ap (rule_bytes M (front true)) joined-one

    closed-bytes : (words_run array q).lengths ++ (closed array q).lengths ≡ closed_bytes M q
    unfolding words_run closed first_state standing_lengths flat
    closed-bytes = sym (ap₂ (λ (x y : List ℕ). x ++ y) lengths-standing (append-nil _ ∙ closing_standing)) ∙ two.lengths ∙ ap (rule_bytes M (front true)) joined-two

    closed-total : sentence_total array q ≡ closed_total M q
    unfolding sentence_total words_run closed first_state answers totals
    closed-total = sym (ap (λ (z : ℤ). (words_run array q).total +ℤ z) (+ℤ_idr (closed array q).total)) ∙ two.scored.total ∙ ap (λ (ws : List ℕ). sum (rule_points M (front true) ws)) joined-two

  -- ---- all of them

  opens : array ≡ Some (store_in left.base left.check)
  opens = opened_some left.base left.check (build_holds table base check work built).array

  module _ (ends : List ℕ) (r : Run) where
    abbrev rs : List Run
    rs = sentences 0 ends r

    abbrev bad : ℕ
    bad = bad_end (length r.words) 1 0 ends

    abbrev size : ℕ
    size = sheet_size (length r.words) (length ends) (last_end 0 ends) (length r.points) (length r.lengths)

    met-number : (met array ends r).number ≡ cond (eqb bad 0) size sentence_end
    unfolding met
    met-number = rw opens (go (eqb bad 0) refl)
      where
        go : (b : Bool) → eqb bad 0 ≡ b → (early_refusal (Some (store_in left.base left.check)) (length r.words) ends (length r.points) (length r.lengths)).number ≡ cond b size sentence_end
        go true e = rw e
        go false e = rw e

    met-place : (met array ends r).place ≡ bad
    unfolding met
    met-place = rw opens (go (eqb bad 0) refl)
      where
        go : (b : Bool) → eqb bad 0 ≡ b → (early_refusal (Some (store_in left.base left.check)) (length r.words) ends (length r.points) (length r.lengths)).place ≡ bad
        go true e = rw e (sym (eqb-true bad 0 e))
        go false e = rw e

    -- nothing refuses the sheet early
    module _ (m : (met array ends r).number ≡ 0) where
      p : Passed left.base left.check ends r
      p = passed left.base left.check ends r m

      -- so each sentence is a run that fills its slices
      module _ (a e : ℕ) (below : a ≤ e) (within : e ≤ length r.words) (reach : e ≤ last_end 0 ends) where
        abbrev q : Run
        q = sentence a e r

        q_words : length q.words ≡ e - a
        q_words = length-stretch a e r.words below within

        q_few : length q.words ≤ run_limit
        q_few = omega (arith, q_words, p.sizes.few_words)

        q_full : FullRun q
        q_full = record {
          points = length-stretch a e r.points below (omega (arith, p.sizes.points-reach)) ∙ sym q_words;
          lengths = length-stretch a e r.lengths below (omega (arith, p.sizes.lengths-reach)) ∙ sym q_words;
        }

      all-scored : first_refused array 1 rs ≡ 0
      all-scored =
          none-refused array r 1 0 ends
          (λ i h.
          let g = good-end (length r.words) 0 0 ends i p.ends-good h in
          let l : get_or ends i 0 ≤ last_end 0 ends = omega (arith, last_end-next 0 ends i h, good-last (length r.words) 0 0 ends (i + 1) p.ends-good) in
          let a = last_end 0 (take i ends) in
          let e = get_or ends i 0 in
          sentence-scored (sentence a e r) (q_few a e g.0 g.1 l) (q_full a e g.0 g.1 l))

      -- what two functions make of each sentence
      alike : {B : Type 0} (f g : Run → B) → ((q : Run) → length q.words ≤ run_limit → FullRun q → f q ≡ g q) → map f rs ≡ map g rs
      alike f g each = map-sentences r (last_end 0 ends) f g (λ a e b w l. each (sentence a e r) (q_few a e b w l) (q_full a e b w l)) 0 0 ends p.ends-good (omega arith)

      points_are : word_points array rs ≡ flat (map (sentence_points M) rs)
      unfolding word_points
      points_are = ap flat (alike (λ q. (words_run array q).points) (sentence_points M) sentence-points)

      bytes_are : word_bytes array rs ≡ flat (map (sentence_bytes M) rs)
      unfolding word_bytes
      bytes_are = ap flat (alike (λ q. (words_run array q).lengths) (sentence_bytes M) sentence-bytes)

      total-is : total_of array rs ≡ sum (map (closed_total M) rs)
      unfolding total_of
      total-is = ap sum (alike (sentence_total array) (closed_total M) closed-total)

      matched-is : (k : ℕ) → matched_of array rs k ≡ count (has_matched k) (flat (map (closed_bytes M) rs))
      unfolding matched_of word_bytes closing_bytes
      matched-is k =
          count-both (has_matched k) (λ q. (words_run array q).lengths) (λ q. (closed array q).lengths) rs
          ∙ ap (λ (l : List (List ℕ)). count (has_matched k) (flat l)) (alike (λ q. (words_run array q).lengths ++ (closed array q).lengths) (closed_bytes M) closed-bytes)

      unknown-is : unknown_of array rs ≡ count says_unknown (flat (map (sentence_bytes M) rs))
      unfolding unknown_of
      unknown-is = ap (count says_unknown) bytes_are

      full : sheet_outcome array ends r ≡ accepted_sheet array ends r
      unfolding sheet_outcome scored_sheet
      full = rw (eq-eqb (met array ends r).number 0 m, eq-eqb (first_refused array 1 rs) 0 all-scored)

      is-accepted : ((sheet_outcome array ends r).sheet.number ≡ 0) × ((sheet_outcome array ends r).sheet.place ≡ 0)
      is-accepted = rw full (unfold accepted_sheet in (refl, refl))

    -- number and place are those of what comes early: 12 cannot happen
    number_is : ((sheet_outcome array ends r).sheet.number ≡ (met array ends r).number) × ((sheet_outcome array ends r).sheet.place ≡ (met array ends r).place)
    number_is = go (eqb (met array ends r).number 0) refl
      where
        go : (b : Bool) → eqb (met array ends r).number 0 ≡ b → ((sheet_outcome array ends r).sheet.number ≡ (met array ends r).number) × ((sheet_outcome array ends r).sheet.place ≡ (met array ends r).place)
        go true e =
            let m = eqb-true _ _ e in
            let a = is-accepted m in
            (a.0 ∙ sym m, a.1 ∙ sym (met-place ∙ (p m).ends-good))
        go false e = unfold sheet_outcome in rw e (refl, refl)

    not-met : (sheet_outcome array ends r).sheet.number ≡ 0 → (met array ends r).number ≡ 0
    not-met z = sym number_is.0 ∙ z

    nth_matched : (k : ℕ) → k < 5 → get_or (matched_of array rs 1 ∷ matched_of array rs 2 ∷ matched_of array rs 3 ∷ matched_of array rs 4 ∷ matched_of array rs 5 ∷ []) k 0 ≡ matched_of array rs (suc k)
    nth_matched zero h = refl
    nth_matched (suc zero) h = refl
    nth_matched (suc (suc zero)) h = refl
    nth_matched (suc (suc (suc zero))) h = refl
    nth_matched (suc (suc (suc (suc zero)))) h = refl
    nth_matched (suc (suc (suc (suc (suc k))))) h = absurd (omega arith)

    sheet-rule : SheetIsTheRule array M ends r
    unfolding accepted_sheet
    sheet-rule = record {
      number = number_is.0 ∙ met-number;
      place = number_is.1 ∙ met-place;
      points = λ z. let m = not-met z in rw (full m) (ap (λ (l : List ℤ). l ++ drop (last_end 0 ends) r.points) (points_are m));
      lengths = λ z. let m = not-met z in rw (full m) (ap (λ (l : List ℕ). l ++ drop (last_end 0 ends) r.lengths) (bytes_are m));
      total = λ z. let m = not-met z in rw (full m) (total-is m);
      matched = λ z k h. let m = not-met z in rw (full m) (nth_matched k h ∙ matched-is m (suc k));
      unknown = λ z. let m = not-met z in rw (full m) (unknown-is m);
    }

    -- the array as the theorems over runs have it
    pub sheet-is-the-rule : SheetIsTheRule (array_of left) M ends r
    unfolding array_of
    sheet-is-the-rule = sheet-rule
