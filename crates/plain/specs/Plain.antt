-- Plain scoring over the lent list alone: the outcome of every call, and what it means. Assumes nothing.
use Rattle.std.specs.declared.result.Result.{Result}
use Rattle.std.specs.declared.result.Result.TheVariants.{Ok, Err}
use Rattle.std.specs.Prelude.{◌≡◌, ◌⊎◌, Bool, false, List, ℕ, ◌≤◌, ◌<◌, length, take, drop, ℤ, pos}
use Rattle.integer.specs.Integer.{sum}
use Rattle.backoff.specs.Limits.{run_limit}
use Rattle.backoff.specs.declared.Refusal.{Refusal}
use Rattle.backoff.specs.Refusal.{word_count, short_slice, Verdict, Accepted, Refused, number_in, place_in}
use Rattle.backoff.specs.Model.{Model, AcceptedModel}
use Rattle.backoff.specs.Rule.{rule_points, rule_bytes}
use Rattle.backoff.specs.Run.{Run, Answer, refused_run, front, plain}
use Rattle.list.specs.Check.{verdict}
use Rattle.list.specs.ListModel.{model_of}
use Rattle.list.specs.Meaning.{NoneMeets, VerdictMeans}

abbrev pub run_of : List ℕ → List ℤ → List ℕ → Run
run_of words points lengths = record { words = words; points = points; lengths = lengths }

-- a refused list refuses the run
abbrev pub plain_if : Verdict → Model → Bool → Run → Answer (Unit {0})
plain_if Accepted M b r = plain M b r
plain_if (Refused number place) M b r = refused_run number place tt r

-- "build 1, .. then row by row 3 to 8, then 9 ..; plain scoring the same without 2 and 10, then 14, 15"
unfoldable pub plain_outcome : List ℤ → Bool → Run → Answer (Unit {0})
plain_outcome t b r = plain_if (verdict t) (model_of t) b r

-- the total that a call returned: 0 where it is refused
abbrev pub total_in : Result ℤ (Refusal ℕ) → ℤ
total_in (Ok total) = total
total_in (Err refusal) = pos 0

-- what the call returned, and the two slices at exit, are those of the answer a
pub record Answers (a : Answer (Unit {0})) (r : Result ℤ (Refusal ℕ)) (points : List ℤ) (lengths : List ℕ) : Type 0 where
  pub number_is : number_in r ≡ a.number
  pub place_is : place_in r ≡ a.place
  pub total-is : total_in r ≡ a.total
  pub points_are : points ≡ a.points
  pub lengths_are : lengths ≡ a.lengths

-- The list is an accepted model, and the words are scored by the back-off rule over it, after `<s>` where b says so.
pub record ByRule (t : List ℤ) (b : Bool) (words : List ℕ) (total : ℤ) (points : List ℤ) (lengths : List ℕ) : Type 0 where
  pub model : AcceptedModel (model_of t)
  pub points_begin : take (length words) points ≡ rule_points (model_of t) (front b) words
  pub lengths_begin : take (length words) lengths ≡ rule_bytes (model_of t) (front b) words
  pub total-is : total ≡ sum (rule_points (model_of t) (front b) words)

-- "A refused run returns total 0", and both slices are as they were.
pub record Untouched (r : Run) (total : ℤ) (points : List ℤ) (lengths : List ℕ) : Type 0 where
  pub total-is : total ≡ pos 0
  pub points_are : points ≡ r.points
  pub lengths_are : lengths ≡ r.lengths

-- 1, row by row 3 to 8, and 9 as the check of the list answers, "then 14, 15"
pub data PlainRefusedBy (t : List ℤ) (r : Run) : ℕ → ℕ → Type 0 where
  bad_list : (n p : ℕ) → (n ≡ 0 → ⊥) → VerdictMeans false t n p → PlainRefusedBy t r n p
  too_many_words : NoneMeets false t → run_limit < length r.words → PlainRefusedBy t r word_count 0
  too_short : NoneMeets false t → length r.words ≤ run_limit → (length r.points < length r.words) ⊎ (length r.lengths < length r.words) → PlainRefusedBy t r short_slice 0

pub record PlainMeans (t : List ℤ) (b : Bool) (r : Run) (number place : ℕ) (total : ℤ) (points : List ℤ) (lengths : List ℕ) : Type 0 where
  pub accepted : number ≡ 0 → ByRule t b r.words total points lengths
  pub no_place : number ≡ 0 → place ≡ 0
  pub refused : (number ≡ 0 → ⊥) → PlainRefusedBy t r number place
  pub untouched : (number ≡ 0 → ⊥) → Untouched r total points lengths
  pub points-past : drop (length r.words) points ≡ drop (length r.words) r.points
  pub lengths-past : drop (length r.words) lengths ≡ drop (length r.words) r.lengths
