-- What the answers of start and run mean over the rows that the lent array holds, and when each number is returned. Assumes nothing.
use Rattle.std.specs.Prelude.{◌≡◌, ◌⊎◌, false, List, [], ◌∷◌, ◌++◌, ℕ, ◌<◌, length, take, drop, get_or, ℤ, pos}
use Rattle.integer.specs.Integer.{sum}
use Rattle.backoff.specs.Limits.{run_limit, unknown_word, start_word, end_word}
use Rattle.backoff.specs.Refusal.{array_head, broken_node, word_count, short_slice, bad_state}
use Rattle.backoff.specs.FirstMet.{Line, ◌when◌, ◌at◌, FirstMet}
use Rattle.backoff.specs.Model.{Model}
use Rattle.backoff.specs.State.{State, empty, start}
use Rattle.backoff.specs.Run.{Run, Answer, run_points, run_bytes, run_end}
use Rattle.backoff.specs.NineNumbers.{nine, nine_zeros, state_in, state_ok}
use Rattle.backoff.specs.Store.{absent, broken, Store, model_in}
use Rattle.double_array.specs.DoubleArray.{is_array, order_in, store_in}
use Rattle.word_walk.specs.Rows.{array_model}

-- ---- 12

module _ (S : Store) where
  -- "a node on the walk has no sound marker, or the root no child 1 where a word is replaced": the word w "is walked from the root, then through the state's
  -- words", and is replaced where the root has no child for it
  pub data Unwalkable (s : State) (w : ℕ) : Type 0 where
    broken-walk : S.look (w ∷ s.words) ≡ broken → Unwalkable s w
    broken-unknown : S.look (w ∷ []) ≡ absent → S.look (unknown_word ∷ s.words) ≡ broken → Unwalkable s w
    no-unknown : S.look (w ∷ []) ≡ absent → S.look (unknown_word ∷ []) ≡ absent → Unwalkable s w

  -- a run's word; after one given as 3 "the state is then what start gives, its 12 at that word included"
  pub data Stuck (s : State) (w : ℕ) : Type 0 where
    at-the-word : Unwalkable s w → Stuck s w
    at-start : w ≡ end_word → Unwalkable empty start_word → Stuck s w

  -- the i-th of the words ws, counted from 0, in the state that those before it leave
  abbrev pub StuckWord : State → List ℕ → ℕ → Type 0
  StuckWord s ws i = (i < length ws) × Stuck (run_end (model_in S) s (take i ws)) (get_or ws i 0)

  -- one of the words ws
  abbrev pub StuckWords : State → List ℕ → Type 0
  StuckWords s ws = (i : ℕ) × StuckWord s ws i

  -- a sentence that is scored from `<s>` and closed with a 3: `<s>`, one of its words or the 3
  abbrev pub StuckSentence : List ℕ → Type 0
  StuckSentence ws = Unwalkable empty start_word ⊎ StuckWords (start (model_in S)) (ws ++ (end_word ∷ []))

-- ---- start

-- "start 11, 12"; of a state in a slice, "another length gives 16 before every other check"
abbrev pub start_refusals : List ℤ → List ℤ → List ℤ → List Line
start_refusals base check state =
    bad_state when (length state ≡ 9 → ⊥)
    ∷ array_head when (is_array base check ≡ false)
    ∷ broken_node when Unwalkable (store_in base check) empty start_word
    ∷ []

-- The number and the place that were returned, and the lent state as it is left: an accepted start gives the state after `<s>`, a refused one the empty
-- state. A slice of another length than nine stays as it is.
pub record StartMeans (base check state : List ℤ) (number place : ℕ) (state' : List ℤ) : Type 0 where
  pub verdict : FirstMet (start_refusals base check state) number place
  pub accepted : number ≡ 0 → state' ≡ nine (start (array_model base check))
  pub refused : (number ≡ 0 → ⊥) → length state ≡ 9 → state' ≡ nine_zeros
  pub untouched : (length state ≡ 9 → ⊥) → state' ≡ state

-- ---- run

-- "run 11, 16, 14, 15, 12", and 16 as above; 12 bears the word's number
abbrev pub run_refusals : List ℤ → List ℤ → List ℤ → Run → List Line
run_refusals base check l r =
    bad_state when (length l ≡ 9 → ⊥)
    ∷ array_head when (is_array base check ≡ false)
    ∷ bad_state when (state_ok (order_in check) l ≡ false)
    ∷ word_count when (run_limit < length r.words)
    ∷ short_slice when ((length r.points < length r.words) ⊎ (length r.lengths < length r.words))
    ∷ broken_node at StuckWord (store_in base check) (state_in l) r.words
    ∷ []

-- the words of the run r, all scored from the state in the nine numbers l
pub record AllScored (M : Model) (l : List ℤ) (r : Run) (a : Answer (List ℤ)) : Type 0 where
  pub points : take (length r.words) a.points ≡ run_points M (state_in l) r.words
  pub lengths : take (length r.words) a.lengths ≡ run_bytes M (state_in l) r.words
  pub total : a.total ≡ sum (run_points M (state_in l) r.words)
  pub end : a.end ≡ nine (run_end M (state_in l) r.words)

-- An accepted run has scored each of its words from the state that the words before it left, and returns the sum of their points and the state
-- that they all leave; a refused one returns total 0 and the given state. Items past the run's words are untouched.
pub record RunMeans (base check : List ℤ) (l : List ℤ) (r : Run) (a : Answer (List ℤ)) : Type 0 where
  pub verdict : FirstMet (run_refusals base check l r) a.number a.place
  pub accepted : a.number ≡ 0 → AllScored (array_model base check) l r a
  pub refused : (a.number ≡ 0 → ⊥) → (a.total ≡ pos 0) × (a.end ≡ l)
  pub points-past : drop (length r.words) a.points ≡ drop (length r.words) r.points
  pub lengths-past : drop (length r.words) a.lengths ≡ drop (length r.words) r.lengths
