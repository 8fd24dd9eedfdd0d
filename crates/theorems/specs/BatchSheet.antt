-- The batch sheet over the array that an accepted build left, as one statement: everything in it is the back-off rule's over the published list. The sentences
-- quoted are document 02's, of T-04. Assumes nothing.
use Rattle.std.specs.declared.option.Option.{Option}
use Rattle.std.specs.Prelude.{◌≡◌, true, cond, List, [], ◌∷◌, ◌++◌, map, ℕ, suc, ◌<◌, eqb, length, drop, get_or, ℤ}
use Rattle.integer.specs.Integer.{sum}
use Rattle.backoff.specs.Limits.{end_word}
use Rattle.backoff.specs.Refusal.{sentence_end}
use Rattle.backoff.specs.Model.{Model}
use Rattle.backoff.specs.Rule.{rule_points, rule_bytes}
use Rattle.backoff.specs.Counts.{has_matched, says_unknown, count}
use Rattle.backoff.specs.Run.{Run, front}
use Rattle.backoff.specs.Runs.{flat}
use Rattle.backoff.specs.Store.{Store}
use Rattle.sentence_ends.specs.Ends.{last_end, bad_end, sheet_size}
use Rattle.stretches.specs.Stretches.{sentences}
use Rattle.batch.specs.Sheet.{Outcome, sheet_outcome}

-- the rule over a sentence's words, "scored from `<s>`", and over these "closed with a 3"
module _ (M : Model) (q : Run) where
  abbrev pub closed_words : List ℕ
  closed_words = q.words ++ (end_word ∷ [])

  abbrev pub sentence_points : List ℤ
  sentence_points = rule_points M (front true) q.words

  abbrev pub sentence_bytes : List ℕ
  sentence_bytes = rule_bytes M (front true) q.words

  abbrev pub closed_total : ℤ
  closed_total = sum (rule_points M (front true) closed_words)

  abbrev pub closed_bytes : List ℕ
  closed_bytes = rule_bytes M (front true) closed_words

module _ (array : Option Store) (M : Model) (ends : List ℕ) (r : Run) where
  abbrev pub given : Outcome
  given = sheet_outcome array ends r

  pub record SheetIsTheRule : Type 0 where
    -- only 20, 14 and 15 refuse a sheet here; 20 has the sentence's number
    pub number : given.sheet.number ≡ cond (eqb (bad_end (length r.words) 1 0 ends) 0) (sheet_size (length r.words) (length ends) (last_end 0 ends) (length r.points) (length r.lengths)) sentence_end
    pub place : given.sheet.place ≡ bad_end (length r.words) 1 0 ends
    -- each sentence's stretch holds the rule's points and length bytes, and what lies past the last end is as it was
    pub points : given.sheet.number ≡ 0 → given.points ≡ flat (map (sentence_points M) (sentences 0 ends r)) ++ drop (last_end 0 ends) r.points
    pub lengths : given.sheet.number ≡ 0 → given.lengths ≡ flat (map (sentence_bytes M) (sentences 0 ends r)) ++ drop (last_end 0 ends) r.lengths
    -- the 3's "points count in the totals", and its matched length is counted
    pub total : given.sheet.number ≡ 0 → given.sheet.total ≡ sum (map (closed_total M) (sentences 0 ends r))
    pub matched : given.sheet.number ≡ 0 → (k : ℕ) → k < 5 → get_or given.sheet.matched k 0 ≡ count (has_matched (suc k)) (flat (map (closed_bytes M) (sentences 0 ends r)))
    -- "unknown words (closing 3s in neither)"
    pub unknown : given.sheet.number ≡ 0 → given.sheet.unknown ≡ count says_unknown (flat (map (sentence_bytes M) (sentences 0 ends r)))
