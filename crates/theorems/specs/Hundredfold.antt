-- Document 02, T-08: "A list in the older points is taken over by multiplying p and b by 100, and every score of it is then exactly 100 times the earlier one."
-- Stated over the outcomes that the contracts of check, build, lookup, start, run, plain scoring and the scoring of a fragment cite. Assumes nothing.
use Rattle.std.specs.declared.option.Option.{Option}
use Rattle.std.specs.Prelude.{◌≡◌, Bool, List, ℕ, length, ℤ, pos, ◌*ℤ◌}
use Rattle.backoff.specs.Rule.{rule, rule_byte}
use Rattle.backoff.specs.Run.{Run}
use Rattle.backoff.specs.Runs.{Alike, AllAlike}
use Rattle.backoff.specs.Store.{Store, run_outcome}
use Rattle.backoff.specs.Refusal.{Accepted}
use Rattle.list.specs.Check.{verdict}
use Rattle.list.specs.ListModel.{model_of}
use Rattle.lookup.specs.Lookup.{lookup_outcome}
use Rattle.lookup.specs.Lookup.{Lookup}
use Rattle.build.specs.Build.{build_outcome}
use Rattle.carried_state.specs.Numbers.{numbers_of}
use Rattle.fragments.specs.declared.Joined.{Joined}
use Rattle.fragment_scoring.specs.Outcome.{fragment_outcome}
use Rattle.plain.specs.Plain.{plain_outcome}
use Rattle.finer.specs.Times.{times, times_model, times_nine, AnsweredTimes, ScoreTimes}
use Rattle.finer.specs.FinerList.{taken_over, times_lookup}
use Rattle.theorems.specs.RunsInARow.{array_of, first_state}

-- an accepted build of the list, into slices of the caller's choice
pub record BuiltFrom (table : List ℤ) : Type 0 where
  pub base : List ℤ
  pub check : List ℤ
  pub work : List ℕ
  pub built : (build_outcome table base check work).answer ≡ Accepted

-- the array that it left
abbrev pub array_from : (table : List ℤ) → BuiltFrom table → Option Store
array_from table B = array_of (build_outcome table B.base B.check B.work)

-- a lookup over it
abbrev pub lookup_from : (table : List ℤ) → BuiltFrom table → List ℕ → Lookup
lookup_from table B ws = lookup_outcome (build_outcome table B.base B.check B.work).base (build_outcome table B.base B.check B.work).check ws

-- A fragment scored, c, is the fragment a with k times its total and the back-offs of its end state; refused, if a is.
pub record FragmentTimes (k : ℕ) (a c : Joined) : Type 0 where
  pub number : c.number ≡ a.number
  pub place : c.place ≡ a.place
  pub total : c.fragment.total ≡ times k a.fragment.total
  pub count : c.fragment.count ≡ a.fragment.count
  pub kept : c.fragment.kept ≡ a.fragment.kept
  pub first : c.fragment.first ≡ a.fragment.first
  pub state : numbers_of c.fragment.state ≡ times_nine k (numbers_of a.fragment.state)

pub record Hundredfold (table : List ℤ) : Type 0 where
  pub accepted : verdict (taken_over table) ≡ Accepted
  -- the same rows, with 100 times p and b
  pub model : model_of (taken_over table) ≡ times_model 100 (model_of table)
  -- each word after every history: 100 times the points, and the same matched length, kind and left extension
  pub points : (h : List ℕ) (w : ℕ) → (rule (model_of (taken_over table)) h w).points ≡ pos 100 *ℤ (rule (model_of table) h w).points
  pub bytes : (h : List ℕ) (w : ℕ) → rule_byte (model_of (taken_over table)) h w ≡ rule_byte (model_of table) h w
  -- a build of it into the same slices is accepted, or refused by 2 or 10, as one of the list is, and leaves the same slots in work
  pub builds : (base check : List ℤ) (work : List ℕ) → (build_outcome (taken_over table) base check work).answer ≡ (build_outcome table base check work).answer
  pub slots : (base check : List ℤ) (work : List ℕ) → (build_outcome (taken_over table) base check work).work ≡ (build_outcome table base check work).work
  -- a lookup over a build of the one finds what it finds over a build of the other, with 100 times p and b
  pub lookups : (B : BuiltFrom table) (F : BuiltFrom (taken_over table)) (ws : List ℕ) → lookup_from (taken_over table) F ws ≡ times_lookup 100 (lookup_from table B ws)
  -- Every list of runs over a build of the one and over a build of the other, from start's state where `started`, else from the empty one, with the same words
  -- and output slices of the same lengths: the same refusals and length bytes, 100 times the points, the totals, and the back-offs of every state.
  pub runs : (B : BuiltFrom table) (F : BuiltFrom (taken_over table)) (started : Bool) (lent lentFiner : List ℤ) → length lent ≡ 9 → length lentFiner ≡ 9
      → (rs qs : List Run) → AllAlike rs qs
      → ScoreTimes 100 (times_nine 100) (run_outcome (array_from table B)) (run_outcome (array_from (taken_over table) F))
      (first_state (array_from table B) started lent) (first_state (array_from (taken_over table) F) started lentFiner) rs qs
  -- plain scoring, which returns no state
  pub plain : (started : Bool) (r q : Run) → Alike r q → AnsweredTimes 100 (λ (u : Unit {0}). u) r q (plain_outcome table started r) (plain_outcome (taken_over table) started q)
  -- a fragment
  pub fragments : (B : BuiltFrom table) (F : BuiltFrom (taken_over table)) (ws : List ℕ) → FragmentTimes 100 (fragment_outcome (array_from table B) ws) (fragment_outcome (array_from (taken_over table) F) ws)
