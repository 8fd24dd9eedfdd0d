-- Demand 3 as one statement, over the outcomes that the contracts of build, start, run and plain scoring cite. The sentences quoted are document 01's, of
-- "Runs in a row". Assumes nothing.
use Rattle.std.specs.declared.option.Option.{Option}
use Rattle.std.specs.Prelude.{◌≡◌, Bool, true, false, List, map, ℕ, ◌<◌, length, take, get_or, ℤ, pos}
use Rattle.integer.specs.Integer.{sum}
use Rattle.backoff.specs.Model.{Model}
use Rattle.backoff.specs.Rule.{rule, rule_byte, rule_points, rule_bytes, history}
use Rattle.backoff.specs.State.{after}
use Rattle.backoff.specs.Run.{Run, Answer, refusal, front}
use Rattle.backoff.specs.Runs.{standing, flat, joined, answers, last_state, standing_points, standing_lengths, totals, AllAlike, ScoreAlike}
use Rattle.backoff.specs.NineNumbers.{nine, nine_zeros}
use Rattle.backoff.specs.Store.{Store, run_outcome, start_outcome}
use Rattle.double_array.specs.DoubleArray.{opened}
use Rattle.placed_list.specs.Build.{Built}

-- "the array that an accepted build of those rows left", as start and run are lent it
unfoldable pub array_of : Built → Option Store
array_of B = opened B.base B.check

-- "The first run gets the state that start returned over this array, or the empty one (nine zeros)"; `lent` is the slice that start was lent
unfoldable pub first_state : Option Store → Bool → List ℤ → List ℤ
first_state array true lent = (start_outcome array lent).state
first_state array false lent = nine_zeros

-- The list of runs rs over the array, from start's state where `started`, else from the empty one. M is the published list.
module _ (array : Option Store) (M : Model) (started : Bool) (lent : List ℤ) (rs : List Run) where
  -- what the runs returned, and what stands in their slices for the joined words
  abbrev pub returned : List (Answer (List ℤ))
  returned = answers (run_outcome array) (first_state array started lent) rs

  abbrev pub points_left : List ℤ
  points_left = flat (standing_points (run_outcome array) (first_state array started lent) rs)

  abbrev pub lengths_left : List ℕ
  lengths_left = flat (standing_lengths (run_outcome array) (first_state array started lent) rs)

  -- "The words preceding a joined word are the joined words before it, with a 2 in front of them all where start was used."
  abbrev pub preceding : ℕ → List ℕ
  preceding i = history M (front started) (take i (joined rs))

  -- what is said of refusals, points and totals
  pub record PointsInARow : Type 0 where
    -- start is accepted over this array
    pub start : (start_outcome array lent).number ≡ 0
    -- "Only 14 and 15 can refuse a run here"
    pub refusals : map (λ a. a.number) returned ≡ map refusal rs
    pub places : map (λ a. a.place) returned ≡ map (λ r. 0) rs
    -- "Each joined word's points .. are those of the back-off rule after these preceding words, however many there are."
    pub each-points : (i : ℕ) → i < length (joined rs) → get_or points_left i (pos 0) ≡ (rule M (preceding i) (get_or (joined rs) i 0)).points
    -- the same of all of them as a list, so that there are no more
    pub points : points_left ≡ rule_points M (front started) (joined rs)
    -- "The runs' totals, a refused run's 0 among them, added as whole numbers equal the sum of the rule's points over all joined words."
    pub total : totals returned ≡ sum (rule_points M (front started) (joined rs))

  -- the whole statement, where `plainly` is one call of plain scoring over the same list, begun after `<s>` where `started`
  pub record RunsInARow (plainly : Run → Answer (Unit {0})) : Type 0 where
    pub scored : PointsInARow
    -- of that sentence the "length byte (matched length and kind)", and all of them as a list
    pub each-length : (i : ℕ) → i < length (joined rs) → get_or lengths_left i 0 ≡ rule_byte M (preceding i) (get_or (joined rs) i 0)
    pub lengths : lengths_left ≡ rule_bytes M (front started) (joined rs)
    -- "The state that the last run returned, or the first state where there is no run, is the state after the history that the joined words, with that 2, leave."
    pub state : last_state (run_outcome array) (first_state array started lent) rs ≡ nine (after M (history M (front started) (joined rs)))
    -- "One call of plain scoring over those same rows on the joined words .. gives the same points, length bytes and total, unless 14 or 15 refuses it."
    pub plain-refusal : (r : Run) → (plainly r).number ≡ refusal r
    pub plain-points : (r : Run) → r.words ≡ joined rs → refusal r ≡ 0 → standing 0 r (plainly r).points ≡ points_left
    pub plain-lengths : (r : Run) → r.words ≡ joined rs → refusal r ≡ 0 → standing 0 r (plainly r).lengths ≡ lengths_left
    pub plain-total : (r : Run) → r.words ≡ joined rs → refusal r ≡ 0 → (plainly r).total ≡ totals returned

-- "a history is any such list of runs with its first state"
pub record History : Type 0 where
  pub started : Bool
  pub lent : List ℤ
  pub runs : List Run

-- the state that a history ends in
unfoldable pub end_of : Option Store → History → List ℤ
end_of array h = last_state (run_outcome array) (first_state array h.started h.lent) h.runs

-- "If two histories over one array end in equal states, every continuation, with the same words and output slices of the same lengths for both, gives both the
-- same refusals, totals and end state, and the same points and length bytes for the words of its accepted runs."
abbrev pub EqualStatesScoreAlike : Option Store → Type 0
EqualStatesScoreAlike array =
    (h k : History) → end_of array h ≡ end_of array k → (rs qs : List Run) → AllAlike rs qs → ScoreAlike (run_outcome array) (end_of array h) (end_of array k) rs qs
