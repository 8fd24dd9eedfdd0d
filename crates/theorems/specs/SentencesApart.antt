-- A text of many sentences scored in one run, and the same sentences each in a run of its own, over the outcomes that the contracts of start and run cite.
-- Assumes nothing.
use Rattle.std.specs.declared.option.Option.{Option}
use Rattle.std.specs.Prelude.{◌≡◌, List, [], ◌∷◌, ◌++◌, map, ℕ, ℤ}
use Rattle.backoff.specs.Limits.{end_word}
use Rattle.backoff.specs.Run.{Run, Answer, refusal}
use Rattle.backoff.specs.Runs.{standing, flat, totals}
use Rattle.backoff.specs.Store.{Store, run_outcome, start_outcome}

-- a run for each sentence, closed with its 3, and one for the words behind the last 3; neither 14 nor 15 refuses any of them
pub data Sentences : List Run → Type 0 where
  behind : {q : Run} → refusal q ≡ 0 → Sentences (q ∷ [])
  closed : (us : List ℕ) {q : Run} {qs : List Run} → q.words ≡ us ++ (end_word ∷ []) → refusal q ≡ 0 → Sentences qs → Sentences (q ∷ qs)

-- One run, and the runs of the sentences, each of them from start's state; `lent` is the slice that start was lent.
module _ (array : Option Store) (lent : List ℤ) (whole : Run) (apart : List Run) where
  -- what a run returns, and what then stands in its slices for its words
  abbrev pub from_start : Run → Answer (List ℤ)
  from_start q = run_outcome array (start_outcome array lent).state q

  abbrev pub points_of : Run → List ℤ
  points_of q = standing (from_start q).number q (from_start q).points

  abbrev pub lengths_of : Run → List ℕ
  lengths_of q = standing (from_start q).number q (from_start q).lengths

  -- word by word the one run gives what the sentences give, its total is theirs added up, and it is refused as little as they are
  pub record SentencesApart : Type 0 where
    pub whole-accepted : (from_start whole).number ≡ 0
    pub apart-accepted : map (λ q. (from_start q).number) apart ≡ map (λ q. 0) apart
    pub points : points_of whole ≡ flat (map points_of apart)
    pub lengths : lengths_of whole ≡ flat (map lengths_of apart)
    pub total : (from_start whole).total ≡ totals (map from_start apart)
