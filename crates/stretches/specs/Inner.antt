-- What the functions that score and count sentences are held to. Assumes nothing.
use Rattle.std.specs.declared.option.Option.{Option}
use Rattle.std.specs.declared.result.Result.{Result}
use Rattle.std.specs.declared.result.Result.TheVariants.{Ok, Err}
use Rattle.std.specs.Prelude.{◌≡◌, List, [], ◌++◌, ℕ, suc, ◌+◌, ◌/◌, ◌%◌, ◌<◌, length, drop, get_or, set, ℤ}
use Rattle.backoff.specs.Counts.{has_matched, says_unknown, count}
use Rattle.backoff.specs.Run.{Run}
use Rattle.backoff.specs.Store.{Store}
use Rattle.sentence_ends.specs.Ends.{last_end}
use Rattle.stretches.specs.declared.Counts.{Counts}
use Rattle.stretches.specs.declared.Scored.{Scored}
use Rattle.stretches.specs.Stretches.{sentences, word_points, word_bytes, closing_bytes, total_of, first_refused}

-- one more byte, counted by its matched length, and among the unknown words if it says so
abbrev pub counted : ℕ → Counts → Counts
counted byte counts = record { matched = set counts.matched (byte % 8) (get_or counts.matched (byte % 8) 0 + 1); unknown = counts.unknown + byte / 8 % 2 }

-- eight counters hold how many of the bytes have each matched length, and a ninth how many of the words' bytes say unknown
pub record Tallied (bytes words : List ℕ) (counts : Counts) : Type 0 where
  pub eight : length counts.matched ≡ 8
  pub each : (k : ℕ) → k < 8 → get_or counts.matched k 0 ≡ count (has_matched k) bytes
  pub unknown : counts.unknown ≡ count says_unknown words

-- all sentences scored: `points` and `lengths` are what the slices of r hold after it
pub record AllScored (o : Option Store) (ends : List ℕ) (r : Run) (scored : Scored) (points : List ℤ) (lengths : List ℕ) : Type 0 where
  pub none-refused : first_refused o 1 (sentences 0 ends r) ≡ 0
  pub total-is : scored.total ≡ total_of o (sentences 0 ends r)
  pub points_are : points ≡ word_points o (sentences 0 ends r) ++ drop (last_end 0 ends) r.points
  pub lengths_are : lengths ≡ word_bytes o (sentences 0 ends r) ++ drop (last_end 0 ends) r.lengths
  pub tallied : Tallied (closing_bytes o (sentences 0 ends r)) [] scored.counts

-- the k-th is refused, counted from 0
pub record OneRefused (o : Option Store) (ends : List ℕ) (r : Run) (k : ℕ) (points : List ℤ) (lengths : List ℕ) : Type 0 where
  pub refused-is : first_refused o 1 (sentences 0 ends r) ≡ suc k
  pub few : k < length ends
  pub points-past : drop (last_end 0 ends) points ≡ drop (last_end 0 ends) r.points
  pub lengths-past : drop (last_end 0 ends) lengths ≡ drop (last_end 0 ends) r.lengths
  pub points-long : length points ≡ length r.points
  pub lengths-long : length lengths ≡ length r.lengths

abbrev pub ScoredAs : Option Store → List ℕ → Run → Result Scored ℕ → List ℤ → List ℕ → Type 0
ScoredAs o ends r (Ok scored) points lengths = AllScored o ends r scored points lengths
ScoredAs o ends r (Err k) points lengths = OneRefused o ends r k points lengths
