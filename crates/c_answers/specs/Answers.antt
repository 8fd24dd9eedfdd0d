-- Answers as they cross to C, as numbers; that of a run or of plain scoring with its slices at exit. Assumes nothing.
use Rattle.std.specs.declared.result.Result.{Result}
use Rattle.std.specs.declared.result.Result.TheVariants.{Ok, Err}
use Rattle.std.specs.Prelude.{◌≡◌, List, ℕ, ℤ, pos}
use Rattle.backoff.specs.declared.Refusal.{Refusal}
use Rattle.backoff.specs.Refusal.{number_of, place_of, number_in, place_in}
use Rattle.backoff.specs.Refusal.{Verdict}
use Rattle.backoff.specs.Run.{Answer}
use Rattle.lookup.specs.Lookup as lookup
use Rattle.lookup.specs.Lookup.{Lookup}
use Rattle.arpa_reading.specs.Rows.{Rows}
use Rattle.arpa_reading.specs.Outcome.{read_number, row_count, read_place}
use Rattle.c_answers.specs.declared.Status.{Status}
use Rattle.c_answers.specs.declared.Found.{Found}
use Rattle.c_answers.specs.declared.Total.{Total}
use Rattle.c_answers.specs.declared.RowCount.{RowCount}

-- the total that a call answered: 0 where it is refused
abbrev pub total_in : Result ℤ (Refusal ℕ) → ℤ
total_in (Ok total) = total
total_in (Err refusal) = pos 0

-- a verdict as its number and place
pub record StatusIs (v : Verdict) (r : Status) : Type 0 where
  pub number : r.number ≡ number_of v
  pub place : r.place ≡ place_of v

-- a lookup's answer; a refused one, and one that found nothing, have two zeros
pub record FoundIs (l : Lookup) (r : Found) : Type 0 where
  pub number : r.number ≡ lookup.lookup_number l
  pub place : r.place ≡ lookup.lookup_place l
  pub found : r.found ≡ lookup.found_of l
  pub p : r.p ≡ lookup.p_of l
  pub b : r.b ≡ lookup.b_of l
  pub left : r.left ≡ lookup.left_of l

-- a reading's answer: the row count, or a refusal's number with its line or row
pub record RowCountIs (a : Rows) (r : RowCount) : Type 0 where
  pub number : r.number ≡ read_number a
  pub rows : r.rows ≡ row_count a
  pub place : r.place ≡ read_place a

-- a run's answer or that of plain scoring, and the slices of points and of length bytes at exit
pub record TotalIs {S : Type 0} (a : Answer S) (r : Total) (points : List ℤ) (lengths : List ℕ) : Type 0 where
  pub number : r.number ≡ a.number
  pub place : r.place ≡ a.place
  pub total : r.total ≡ a.total
  pub points_are : points ≡ a.points
  pub lengths_are : lengths ≡ a.lengths

-- a run's answer or that of plain scoring: its total, or a refusal's number and place with the total 0
pub record TotalOf (a : Result ℤ (Refusal ℕ)) (r : Total) : Type 0 where
  pub number : r.number ≡ number_in a
  pub place : r.place ≡ place_in a
  pub total : r.total ≡ total_in a
