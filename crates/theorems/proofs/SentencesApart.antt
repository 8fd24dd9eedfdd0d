-- One run over a text with 3s in it gives what its sentences give apart, over the array that an accepted build left. Assumes nothing.
use Rattle.std.specs.declared.option.Option.{Option}
use mathlib.Core.Path.{◌≡◌, refl, sym, ap, ap₂, ◌∙◌}
use mathlib.Core.Bool.{true}
use mathlib.Core.List.{List, [], ◌∷◌, ◌++◌, map, append-nil}
use Prim.Native.Nat.{ℕ}
use lib.ListN.{length}
use lib.IntN.{ℤ, +ℤ_idr}
use borrow.Author.Tests.{eq-eqb}
use Rattle.integer.specs.Integer.{sum}
use Rattle.backoff.specs.Limits.{start_word, end_word}
use Rattle.backoff.specs.Rule.{rule_points, rule_bytes, history}
use Rattle.backoff.specs.State.{after}
use Rattle.backoff.specs.Run.{Run, Answer, refusal, accepted, front}
use Rattle.backoff.specs.Runs.{standing, flat, added, joined, answers, last_state, standing_points, standing_lengths, totals}
use Rattle.backoff.specs.NineNumbers.{nine}
use Rattle.backoff.specs.Store.{Store, run_outcome, start_outcome}
use Rattle.backoff.specs.Refusal.{Accepted}
use Rattle.backoff.proofs.Rule.{history-ended}
use Rattle.list.specs.ListModel.{model_of}
use Rattle.build.specs.Build.{build_outcome}
use Rattle.plain.specs.Plain.{plain_outcome}
use Rattle.theorems.specs.RunsInARow.{array_of, first_state, RunsInARow}
use Rattle.theorems.specs.SentencesApart.{Sentences, behind, closed, SentencesApart}
use Rattle.theorems.proofs.RunsInARow.{runs_in_a_row}

flat-one : {A : Type 0} (l : List A) → flat (l ∷ []) ≡ l
unfolding flat
flat-one l = append-nil l

totals-one : (a : Answer (List ℤ)) → totals (a ∷ []) ≡ a.total
unfolding totals
totals-one a = +ℤ_idr a.total

added-accepted : (r : Run) → refusal r ≡ 0 → added r ≡ r.words
unfolding added accepted
added-accepted r e = rw (eq-eqb (refusal r) 0 e)

joined_words : {rs : List Run} → Sentences rs → joined rs ≡ flat (map (λ r. r.words) rs)
unfolding joined flat
joined_words (behind {q} e) = ap (λ (l : List ℕ). l ++ []) (added-accepted q e)
joined_words (closed us {q} {qs} w e t) = ap₂ (λ (k l : List ℕ). k ++ l) (added-accepted q e) (joined_words t)

-- ---- runs in a row whose state comes back to the first, but for the last run

module _ (call : List ℤ → Run → Answer (List ℤ)) (l : List ℤ) (back : (us : List ℕ) (q : Run) → q.words ≡ us ++ (end_word ∷ []) → refusal q ≡ 0 → (call l q).end ≡ l) where
  answers-apart : {rs : List Run} → Sentences rs → answers call l rs ≡ map (call l) rs
  unfolding answers
  answers-apart (behind e) = refl
  answers-apart (closed us {q} {qs} w e t) = ap (λ (a : List (Answer (List ℤ))). call l q ∷ a) (ap (λ (s : List ℤ). answers call s qs) (back us q w e) ∙ answers-apart t)

  numbers_apart : {rs : List Run} → Sentences rs → map (λ a. a.number) (answers call l rs) ≡ map (λ q. (call l q).number) rs
  unfolding answers
  numbers_apart (behind e) = refl
  numbers_apart (closed us {q} {qs} w e t) = ap (λ (n : List ℕ). (call l q).number ∷ n) (ap (λ (s : List ℤ). map (λ a. a.number) (answers call s qs)) (back us q w e) ∙ numbers_apart t)

  points-apart : {rs : List Run} → Sentences rs → standing_points call l rs ≡ map (λ q. standing (call l q).number q (call l q).points) rs
  unfolding standing_points
  points-apart (behind e) = refl
  points-apart (closed us {q} {qs} w e t) = ap (λ (a : List (List ℤ)). standing (call l q).number q (call l q).points ∷ a) (ap (λ (s : List ℤ). standing_points call s qs) (back us q w e) ∙ points-apart t)

  lengths-apart : {rs : List Run} → Sentences rs → standing_lengths call l rs ≡ map (λ q. standing (call l q).number q (call l q).lengths) rs
  unfolding standing_lengths
  lengths-apart (behind e) = refl
  lengths-apart (closed us {q} {qs} w e t) = ap (λ (a : List (List ℕ)). standing (call l q).number q (call l q).lengths ∷ a) (ap (λ (s : List ℤ). standing_lengths call s qs) (back us q w e) ∙ lengths-apart t)

none-refused : {rs : List Run} → Sentences rs → map refusal rs ≡ map (λ q. 0) rs
none-refused (behind e) = ap (λ (n : ℕ). n ∷ []) e
none-refused (closed us {q} {qs} w e t) = ap₂ (λ (n : ℕ) (l : List ℕ). n ∷ l) e (none-refused t)

-- ---- over the array that an accepted build left

module _ (table base check : List ℤ) (work : List ℕ) (built : (build_outcome table base check work).answer ≡ Accepted) (lent : List ℤ) (nine-long : length lent ≡ 9) where
  abbrev array : Option Store
  array = array_of (build_outcome table base check work)

  abbrev begun : List ℤ
  begun = (start_outcome array lent).state

  -- the runs rs in a row from start's state
  in_a_row : (rs : List Run) → RunsInARow array (model_of table) true lent rs (plain_outcome table true)
  in_a_row rs = runs_in_a_row table base check work built true lent nine-long rs

  -- start's state is that after `<s>`
  begun-is : begun ≡ nine (after (model_of table) (start_word ∷ []))
  unfolding last_state first_state joined flat front history
  begun-is = (in_a_row []).state

  -- after a 3 the state is start's
  back : (us : List ℕ) (q : Run) → q.words ≡ us ++ (end_word ∷ []) → refusal q ≡ 0 → (run_outcome array begun q).end ≡ begun
  unfolding last_state first_state joined flat front
  back us q w e =
      let ended : history (model_of table) (start_word ∷ []) (us ++ (end_word ∷ [])) ≡ start_word ∷ [] = history-ended (model_of table) (start_word ∷ []) us [] ∙ (unfold history in refl) in
      (in_a_row (q ∷ [])).state
      ∙ ap (λ (ws : List ℕ). nine (after (model_of table) (history (model_of table) (start_word ∷ []) ws))) (ap (λ (ws : List ℕ). ws ++ []) (added-accepted q e) ∙ append-nil q.words ∙ w)
      ∙ ap (λ (h : List ℕ). nine (after (model_of table) h)) ended
      ∙ sym begun-is

  module _ (whole : Run) (apart : List Run) (t : Sentences apart) (w : whole.words ≡ flat (map (λ q. q.words) apart)) (e : refusal whole ≡ 0) where
    joined_same : joined (whole ∷ []) ≡ joined apart
    joined_same = joined_words (behind e) ∙ flat-one whole.words ∙ w ∙ sym (joined_words t)

    row-whole : RunsInARow array (model_of table) true lent (whole ∷ []) (plain_outcome table true)
    row-whole = in_a_row (whole ∷ [])

    row_apart : RunsInARow array (model_of table) true lent apart (plain_outcome table true)
    row_apart = in_a_row apart

    number-whole : (run_outcome array begun whole).number ∷ [] ≡ refusal whole ∷ []
    unfolding answers first_state
    number-whole = row-whole.scored.refusals

    points-whole : flat (standing (run_outcome array begun whole).number whole (run_outcome array begun whole).points ∷ []) ≡ rule_points (model_of table) (front true) (joined (whole ∷ []))
    unfolding standing_points first_state
    points-whole = row-whole.scored.points

    lengths-whole : flat (standing (run_outcome array begun whole).number whole (run_outcome array begun whole).lengths ∷ []) ≡ rule_bytes (model_of table) (front true) (joined (whole ∷ []))
    unfolding standing_lengths first_state
    lengths-whole = row-whole.lengths

    total-whole : totals (run_outcome array begun whole ∷ []) ≡ sum (rule_points (model_of table) (front true) (joined (whole ∷ [])))
    unfolding answers first_state
    total-whole = row-whole.scored.total

    -- the same for the sentences, each from start's state
    numbers-each : map (λ q. (run_outcome array begun q).number) apart ≡ map refusal apart
    unfolding first_state
    numbers-each = sym (numbers_apart (run_outcome array) begun back t) ∙ row_apart.scored.refusals

    points-each : flat (map (λ q. standing (run_outcome array begun q).number q (run_outcome array begun q).points) apart) ≡ rule_points (model_of table) (front true) (joined apart)
    unfolding first_state
    points-each = ap flat (sym (points-apart (run_outcome array) begun back t)) ∙ row_apart.scored.points

    lengths-each : flat (map (λ q. standing (run_outcome array begun q).number q (run_outcome array begun q).lengths) apart) ≡ rule_bytes (model_of table) (front true) (joined apart)
    unfolding first_state
    lengths-each = ap flat (sym (lengths-apart (run_outcome array) begun back t)) ∙ row_apart.lengths

    total-each : totals (map (run_outcome array begun) apart) ≡ sum (rule_points (model_of table) (front true) (joined apart))
    unfolding first_state
    total-each = ap totals (sym (answers-apart (run_outcome array) begun back t)) ∙ row_apart.scored.total

    pub sentences-apart : SentencesApart array lent whole apart
    sentences-apart = record {
      whole-accepted = cc (number-whole, e);
      apart-accepted = numbers-each ∙ none-refused t;
      points = sym (flat-one _) ∙ points-whole ∙ ap (rule_points (model_of table) (front true)) joined_same ∙ sym points-each;
      lengths = sym (flat-one _) ∙ lengths-whole ∙ ap (rule_bytes (model_of table) (front true)) joined_same ∙ sym lengths-each;
      total = sym (totals-one _) ∙ total-whole ∙ ap (λ (ws : List ℕ). sum (rule_points (model_of table) (front true) ws)) joined_same ∙ sym total-each;
    }
