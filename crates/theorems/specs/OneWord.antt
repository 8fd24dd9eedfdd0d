-- One misheard word, over the outcomes that the contracts of build, start, run and plain scoring cite. The sentences quoted are document 02's, of T-11.
-- Assumes nothing.
use Rattle.std.specs.declared.option.Option.{Option}
use Rattle.std.specs.Prelude.{◌≡◌, Bool, List, ℕ, ◌+◌, ◌≤◌, length, ℤ, pos}
use Rattle.backoff.specs.Run.{Run, Answer}
use Rattle.backoff.specs.Runs.{standing, flat, joined, answers, last_state, standing_points, standing_lengths, totals, SameRoom, AllAlike, ScoreAlike}
use Rattle.backoff.specs.Store.{Store, run_outcome}
use Rattle.one_word.specs.OneWord.{DifferAt, distance, total_move, closer_move, OneWordMoves}
use Rattle.theorems.specs.RunsInARow.{first_state}

-- What two calls answer whose words differ at place i and that are refused by the same number, 0 for none: what stands in their slices for the words, nothing where
-- they are refused, and their totals, both 0 then.
pub record AnswersMove {S : Type 0} (n i : ℕ) (r q : Run) (a c : Answer S) : Type 0 where
  pub moves : OneWordMoves n i (standing a.number r a.points) (standing c.number q c.points) (standing a.number r a.lengths) (standing c.number q c.lengths)
  pub total : distance a.total c.total ≤ total_move n
  pub refused : (a.number ≡ 0 → ⊥) → (a.total ≡ pos 0) × (c.total ≡ pos 0)

-- "For two sequences of equal length from the same start that differ at one place, only that word and the n − 1 after it may differ in points. So the totals are
-- at most n × (2 × n − 1) × 99,000,000 apart. This is to hold for accepted lists, with sentence ends inside, and for the array scorer over what a
-- build wrote." 99,000,000 is the largest back-off and n the list's order. A 3 may stand anywhere among the words, also at the place where they differ. Beyond the request: the same of the length
-- bytes; equal states after those n words, and so equal answers to whatever follows; and totals at most (3n − 2) × the largest back-off apart by the rule.
module _ (array : Option Store) (plainly : Bool → Run → Answer (Unit {0})) (n : ℕ) where
  pub record OneMisheardWord : Type 0 where
    -- by the list alone, after `<s>` or with no context
    pub plain-refused : (started : Bool) (r q : Run) (i : ℕ) → DifferAt i r.words q.words → SameRoom r q → (plainly started r).number ≡ (plainly started q).number
    pub plain : (started : Bool) (r q : Run) (i : ℕ) → DifferAt i r.words q.words → (plainly started r).number ≡ (plainly started q).number → AnswersMove n i r q (plainly started r) (plainly started q)
    pub plain-closer : (started : Bool) (r q : Run) (i : ℕ) → DifferAt i r.words q.words → (plainly started r).number ≡ (plainly started q).number → distance (plainly started r).total (plainly started q).total ≤ closer_move n
    -- two runs from one state, which may be any, a caller's own too
    pub run-refused : (state : List ℤ) (r q : Run) (i : ℕ) → DifferAt i r.words q.words → SameRoom r q → (run_outcome array state r).number ≡ (run_outcome array state q).number
    pub run : (state : List ℤ) (r q : Run) (i : ℕ) → DifferAt i r.words q.words → (run_outcome array state r).number ≡ (run_outcome array state q).number → AnswersMove n i r q (run_outcome array state r) (run_outcome array state q)
    pub run_end_lem : (state : List ℤ) (r q : Run) (i : ℕ) → DifferAt i r.words q.words → (run_outcome array state r).number ≡ (run_outcome array state q).number → i + n ≤ length r.words → (run_outcome array state r).end ≡ (run_outcome array state q).end
    -- two lists of runs in a row, from start's state or from the empty one: the words are those of the accepted runs, joined
    pub runs : (started : Bool) (lent : List ℤ) → length lent ≡ 9 → (rs qs : List Run) (i : ℕ) → DifferAt i (joined rs) (joined qs)
        → OneWordMoves n i
        (flat (standing_points (run_outcome array) (first_state array started lent) rs)) (flat (standing_points (run_outcome array) (first_state array started lent) qs))
        (flat (standing_lengths (run_outcome array) (first_state array started lent) rs)) (flat (standing_lengths (run_outcome array) (first_state array started lent) qs))
    pub runs-total : (started : Bool) (lent : List ℤ) → length lent ≡ 9 → (rs qs : List Run) (i : ℕ) → DifferAt i (joined rs) (joined qs) → distance (totals (answers (run_outcome array) (first_state array started lent) rs)) (totals (answers (run_outcome array) (first_state array started lent) qs)) ≤ total_move n
    pub runs-closer : (started : Bool) (lent : List ℤ) → length lent ≡ 9 → (rs qs : List Run) (i : ℕ) → DifferAt i (joined rs) (joined qs) → distance (totals (answers (run_outcome array) (first_state array started lent) rs)) (totals (answers (run_outcome array) (first_state array started lent) qs)) ≤ closer_move n
    -- once n words are scored from the place on, every continuation scores alike
    pub continued : (started : Bool) (lent : List ℤ) → length lent ≡ 9 → (rs qs : List Run) (i : ℕ) → DifferAt i (joined rs) (joined qs) → i + n ≤ length (joined rs) → (ts us : List Run) → AllAlike ts us
        → ScoreAlike (run_outcome array) (last_state (run_outcome array) (first_state array started lent) rs) (last_state (run_outcome array) (first_state array started lent) qs) ts us
