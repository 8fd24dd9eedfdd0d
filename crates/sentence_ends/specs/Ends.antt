-- The ends of sentences that lie in one slice of words, of each the count of words up to there, and what refuses their sheet before any word is scored. The
-- sentences quoted are document 02's, of T-04. Assumes nothing.
use Rattle.std.specs.declared.option.Option.{Option}
use Rattle.std.specs.declared.option.Option.TheVariants.{Some, None}
use Rattle.std.specs.declared.result.Result.{Result}
use Rattle.std.specs.declared.result.Result.TheVariants.{Ok, Err}
use Rattle.std.specs.Prelude.{cond, ◌||◌, List, [], ◌∷◌, ℕ, suc, length, eqb, ltb}
use Rattle.backoff.specs.Limits.{run_limit}
use Rattle.backoff.specs.Refusal.{array_head, word_count, short_slice, sentence_end, reason_number}
use Rattle.backoff.specs.Store.{Store}
use Rattle.backoff.specs.declared.Refusal.{Refusal as CallRefusal}

-- what meets a sheet before its words are scored, 0 and 0 if nothing does
pub record Refusal : Type 0 where
  pub number : ℕ
  pub place : ℕ

-- what a check of a sheet answers, as that
abbrev pub met_by : Result Unit (CallRefusal ℕ) → Refusal
met_by (Ok _) = record { number = 0; place = 0 }
met_by (Err refusal) = record { number = reason_number refusal.reason; place = refusal.place }

-- where the last of the sentences behind the first a words ends: "words after the last end belong to none"
unfoldable pub last_end : ℕ → List ℕ → ℕ
last_end a [] = a
last_end a (e ∷ es) = last_end e es

-- "20 with the sentence's number for an end below the one before or past the words": the number, counted from k, of the first such sentence behind the
-- first a words, 0 if there is none
unfoldable pub bad_end : ℕ → ℕ → ℕ → List ℕ → ℕ
bad_end words k a [] = 0
bad_end words k a (e ∷ es) = cond (ltb e a || ltb words e) k (bad_end words (suc k) e es)

-- the same number of the sentence that a search found, counted from 0
abbrev pub bad_number : Option ℕ → ℕ
bad_number None = 0
bad_number (Some i) = suc i

-- "14 means more than 65,535 items in the slice of words or of ends, then come 15 (points or lengths shorter than the last end)": 0 for neither
unfoldable pub sheet_size : ℕ → ℕ → ℕ → ℕ → ℕ → ℕ
sheet_size words ends last points lengths =
    cond (ltb run_limit words || ltb run_limit ends) word_count (cond (ltb points last || ltb lengths last) short_slice 0)

-- 11, "tried after 11 and before 14" 20, 14, 15: number and place, 0 and 0 where none of them meets a sheet of these ends and of so many words, points and
-- lengths
abbrev pub early_refusal : Option Store → ℕ → List ℕ → ℕ → ℕ → Refusal
early_refusal None words ends points lengths = record { number = array_head; place = 0 }
early_refusal (Some S) words ends points lengths =
    cond (eqb (bad_end words 1 0 ends) 0)
    (record { number = sheet_size words (length ends) (last_end 0 ends) points lengths; place = 0 })
    (record { number = sentence_end; place = bad_end words 1 0 ends })
