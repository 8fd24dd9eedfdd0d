-- The batch sheet of document 02, T-04, over any store, as start and run are lent one. The sentences quoted are that request's. Assumes nothing.
use Rattle.std.specs.declared.option.Option.{Option}
use Rattle.std.specs.Prelude.{cond, List, [], ◌∷◌, ◌++◌, ℕ, ◌+◌, length, drop, replicate, ℤ, pos, eqb}
use Rattle.backoff.specs.Refusal.{broken_node}
use Rattle.backoff.specs.Counts.{has_matched, says_unknown, count}
use Rattle.backoff.specs.Run.{Run, written}
use Rattle.backoff.specs.Store.{Store}
use Rattle.sentence_ends.specs.Ends.{Refusal, last_end, early_refusal}
use Rattle.stretches.specs.Stretches.{sentences, word_points, word_bytes, closing_bytes, total_of, first_refused}
use Rattle.batch.specs.declared.Sheet.{Sheet}

-- what is returned, and both slices as they are after the call
pub record Outcome : Type 0 where
  pub sheet : Sheet
  pub points : List ℤ
  pub lengths : List ℕ

-- "a refused sheet is all zeros"
abbrev pub refused_sheet : ℕ → ℕ → Sheet
refused_sheet number place =
    record { number = number; sentences = 0; place = place; total = pos 0; words = 0; unknown = 0; matched = 0 ∷ 0 ∷ 0 ∷ 0 ∷ 0 ∷ [] }

-- "12 bears the sentence's number and leaves all stretches 0"
unfoldable pub broken_sheet : ℕ → ℕ → Run → Outcome
broken_sheet k last r =
    record { sheet = refused_sheet broken_node k; points = written (replicate last (pos 0)) r.points; lengths = written (replicate last 0) r.lengths }

-- "unknown words (closing 3s in neither)"
unfoldable pub unknown_of : Option Store → List Run → ℕ
unknown_of o rs = count says_unknown (word_bytes o rs)

-- "for each matched length 1 to 5 how many scored words had it", the closing 3s among them
unfoldable pub matched_of : Option Store → List Run → ℕ → ℕ
matched_of o rs k = count (has_matched k) (word_bytes o rs) + count (has_matched k) (closing_bytes o rs)

-- "The sheet gives sentences, words, unknown words .., total points, and for each matched length 1 to 5 how many scored words had it."
abbrev pub full_sheet : Option Store → List ℕ → List Run → Sheet
full_sheet o ends rs =
    record {
      number = 0;
      sentences = length ends;
      place = 0;
      total = total_of o rs;
      words = last_end 0 ends;
      unknown = unknown_of o rs;
      matched = matched_of o rs 1 ∷ matched_of o rs 2 ∷ matched_of o rs 3 ∷ matched_of o rs 4 ∷ matched_of o rs 5 ∷ [];
    }

-- the sheet of these ends over the words, points and lengths of r
module _ (o : Option Store) (ends : List ℕ) (r : Run) where
  unfoldable pub accepted_sheet : Outcome
  accepted_sheet =
      record {
        sheet = full_sheet o ends (sentences 0 ends r);
        points = word_points o (sentences 0 ends r) ++ drop (last_end 0 ends) r.points;
        lengths = word_bytes o (sentences 0 ends r) ++ drop (last_end 0 ends) r.lengths;
      }

  -- 12 comes last
  unfoldable pub scored_sheet : Outcome
  scored_sheet =
      cond (eqb (first_refused o 1 (sentences 0 ends r)) 0)
      accepted_sheet
      (broken_sheet (first_refused o 1 (sentences 0 ends r)) (last_end 0 ends) r)

  -- what meets it before any word is scored
  unfoldable pub met : Refusal
  met = early_refusal o (length r.words) ends (length r.points) (length r.lengths)

  -- an early refusal comes "with nothing written"
  unfoldable pub sheet_outcome : Outcome
  sheet_outcome =
      cond (eqb met.number 0)
      scored_sheet
      (record { sheet = refused_sheet met.number met.place; points = r.points; lengths = r.lengths })
