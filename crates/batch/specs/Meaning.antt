-- What a sheet means, over any lent arrays, and when each number is returned. The sentences quoted are document 02's, of T-04. Assumes nothing.
use Rattle.std.specs.declared.option.Option.{Option}
use Rattle.std.specs.Prelude.{◌≡◌, ◌⊎◌, true, false, List, [], ◌∷◌, map, ℕ, ◌+◌, ◌<◌, length, take, drop, get_or, ℤ}
use Rattle.integer.specs.Integer.{sum}
use Rattle.backoff.specs.Limits.{run_limit}
use Rattle.backoff.specs.Refusal.{array_head, broken_node, word_count, short_slice, sentence_end}
use Rattle.backoff.specs.FirstMet.{Line, ◌when◌, ◌at◌, FirstMet}
use Rattle.backoff.specs.Counts.{has_matched, says_unknown, count}
use Rattle.backoff.specs.Run.{Run}
use Rattle.backoff.specs.Store.{Store}
use Rattle.double_array.specs.DoubleArray.{is_array, store_in, opened}
use Rattle.score.specs.Answers.{started_over}
use Rattle.score.specs.Meaning.{StuckSentence}
use Rattle.sentence_ends.specs.Ends.{last_end}
use Rattle.closed_sentence.specs.Sentence.{words_run, closed, is_scored, sentence_total}
use Rattle.stretches.specs.Stretches.{stretch, sentence, sentences, closing_bytes}
use Rattle.batch.specs.declared.Sheet.{Sheet}
use Rattle.batch.specs.Sheet.{Outcome, refused_sheet, met, sheet_outcome}

-- how many words all five matched lengths have
abbrev pub all_matched : Sheet → ℕ
all_matched s = get_or s.matched 0 0 + get_or s.matched 1 0 + get_or s.matched 2 0 + get_or s.matched 3 0 + get_or s.matched 4 0

-- a run whose slices have room for its words and no more
pub record FullRun (q : Run) : Type 0 where
  pub points : length q.points ≡ length q.words
  pub lengths : length q.lengths ≡ length q.words

module _ (ends : List ℕ) where
  -- where the i-th sentence begins and ends, counted from 0
  abbrev pub from : ℕ → ℕ
  from i = last_end 0 (take i ends)

  abbrev pub to : ℕ → ℕ
  to i = get_or ends i 0

  -- "an end below the one before or past the words"
  abbrev pub BadEnd : Run → ℕ → Type 0
  BadEnd r i = (i < length ends) × ((to i < from i) ⊎ (length r.words < to i))

  -- a caller's own run over the i-th sentence, with slices that have room for its words
  pub record OwnRun (r : Run) (i : ℕ) (q : Run) : Type 0 where
    pub words : q.words ≡ stretch (from i) (to i) r.words
    pub full : FullRun q

-- "20 with the sentence's number .., tried after 11 and before 14 .. 14 means more than 65,535 items in the slice of words or of ends, then come 15 (points or
-- lengths shorter than the last end) and 12; 12 bears the sentence's number"
abbrev pub sheet_refusals : List ℤ → List ℤ → List ℕ → Run → List Line
sheet_refusals base check ends r =
    array_head when (is_array base check ≡ false)
    ∷ sentence_end at BadEnd ends r
    ∷ word_count when ((run_limit < length r.words) ⊎ (run_limit < length ends))
    ∷ short_slice when ((length r.points < last_end 0 ends) ⊎ (length r.lengths < last_end 0 ends))
    ∷ broken_node at (λ i. (i < length ends) × StuckSentence (store_in base check) (stretch (from ends i) (to ends i) r.words))
    ∷ []

-- a sentence that 12 refuses: start, its words or its 3
abbrev pub ByTwelve : Option Store → Run → Type 0
ByTwelve o q = ((started_over o).number ≡ broken_node) ⊎ (((words_run o q).number ≡ broken_node) ⊎ ((closed o q).number ≡ broken_node))

-- What was returned, a, with both slices as they are after the call.
module _ (o : Option Store) (ends : List ℕ) (r : Run) (a : Outcome) where
  -- an accepted sheet adds up
  pub record AddsUp : Type 0 where
    -- "Those five counts add up to words plus sentences"
    pub counts : all_matched a.sheet ≡ a.sheet.words + a.sheet.sentences
    -- "and the total equals the separate sentence totals added"
    pub total : a.sheet.total ≡ sum (map (sentence_total o) (sentences 0 ends r))

  -- a caller's own run is what the sheet has of this sentence
  pub record IsRun (i : ℕ) (q : Run) : Type 0 where
    pub accepted : is_scored o q ≡ true
    pub points : stretch (from ends i) (to ends i) a.points ≡ (words_run o q).points
    pub lengths : stretch (from ends i) (to ends i) a.lengths ≡ (words_run o q).lengths
    pub total : sentence_total o (sentence (from ends i) (to ends i) r) ≡ sentence_total o q

  -- The words are those up to the last end, and the counts tell of all of them.
  pub record FullSheet : Type 0 where
    pub all-sentences : a.sheet.sentences ≡ length ends
    pub all_words : a.sheet.words ≡ last_end 0 ends
    -- "unknown words (closing 3s in neither)"
    pub unknown : a.sheet.unknown ≡ count says_unknown (take (last_end 0 ends) a.lengths)
    -- "for each matched length 1 to 5 how many scored words had it", the closing 3s among them
    pub matched : a.sheet.matched ≡ map (λ k. count (has_matched k) (take (last_end 0 ends) a.lengths) + count (has_matched k) (closing_bytes o (sentences 0 ends r))) (1 ∷ 2 ∷ 3 ∷ 4 ∷ 5 ∷ [])
    pub adds_up : AddsUp
    pub each : (i : ℕ) → i < length ends → (q : Run) → OwnRun ends r i q → IsRun i q

-- What was returned, with both slices as they are after the call. "a refused sheet is all zeros"; items past the last end are untouched.
pub record SheetMeans (base check : List ℤ) (ends : List ℕ) (r : Run) (a : Outcome) : Type 0 where
  pub verdict : FirstMet (sheet_refusals base check ends r) a.sheet.number a.sheet.place
  pub accepted : a.sheet.number ≡ 0 → FullSheet (opened base check) ends r a
  pub refused : (a.sheet.number ≡ 0 → ⊥) → a.sheet ≡ refused_sheet a.sheet.number a.sheet.place
  pub points-past : drop (last_end 0 ends) a.points ≡ drop (last_end 0 ends) r.points
  pub lengths-past : drop (last_end 0 ends) a.lengths ≡ drop (last_end 0 ends) r.lengths

-- A sheet that nothing refuses early is accepted exactly if the caller's runs are, and then it is these runs.
pub record IsRuns (o : Option Store) (ends : List ℕ) (r : Run) : Type 0 where
  pub each : (sheet_outcome o ends r).sheet.number ≡ 0 → (i : ℕ) → i < length ends → (q : Run) → OwnRun ends r i q → IsRun o ends r (sheet_outcome o ends r) i q
  pub accepted : (met o ends r).number ≡ 0 → ((i : ℕ) → i < length ends → (q : Run) → OwnRun ends r i q → is_scored o q ≡ true) → (sheet_outcome o ends r).sheet.number ≡ 0
  -- no other number than 12 meets them
  pub refused : (met o ends r).number ≡ 0 → (i : ℕ) → i < length ends → (q : Run) → OwnRun ends r i q → is_scored o q ≡ false → ByTwelve o q
