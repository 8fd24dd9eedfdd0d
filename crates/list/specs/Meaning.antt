-- What the verdict on a list means: the refusals that can meet a list, each with its condition as the table of document 01 has it, and which of those that
-- meet it is answered. Rows are counted from 0 here, and their places from 1. Assumes nothing.
use Rattle.std.specs.Prelude.{◌≡◌, Bool, false, cond, List, [], ◌∷◌, ℕ, suc, ◌+◌, ◌*◌, ◌%◌, ◌≤◌, ◌<◌, eqb, ℤ, pos, length}
use Rattle.integer.specs.Integer.{between}
use Rattle.backoff.specs.Limits.{row_limit, order_limit, word_limit, unknown_word, start_word, end_word}
use Rattle.backoff.specs.Model.{AcceptedModel, in_probability, in_backoff}
use Rattle.backoff.specs.Refusal.{table_length, row_length, row_words, row_probability, row_backoff, row_order, shorter_row, reserved_word}
use Rattle.rows.specs.Table.{rows_of, field, probability_at, backoff_at, length_of, order_of, words, without_last}
use Rattle.rows.specs.Order.{precedes}
use Rattle.rows_before.specs.Faults.{without_firsts}
use Rattle.list.specs.ListModel.{model_of}

-- none of rows 0 to n − 1 has these words
abbrev pub NoRowBelow : List ℤ → ℕ → List ℕ → Type 0
NoRowBelow t n ws = (j : ℕ) → j < n → words t j ≡ ws → ⊥

-- A list that is taken as it is, or to be filled, meets the refusal of this number and place.
pub data Meets (filling : Bool) (t : List ℤ) : ℕ → ℕ → Type 0 where
  -- "table length 0, no multiple of 8, or above 65,535 rows"
  table_empty : length t ≡ 0 → Meets filling t table_length 0
  table_parted : (length t % 8 ≡ 0 → ⊥) → Meets filling t table_length 0
  table-long : row_limit < rows_of t → Meets filling t table_length 0
  -- "m outside 1..5"
  row-length : (i : ℕ) → i < rows_of t → between (pos 1) (pos order_limit) (field t i 0) ≡ false → Meets filling t row_length (suc i)
  -- "used word outside 1..65,535, unused not 0"
  used_word : (i j : ℕ) → i < rows_of t → 1 ≤ j → j ≤ length_of t i → between (pos 1) (pos word_limit) (field t i j) ≡ false → Meets filling t row_words (suc i)
  unused_word : (i j : ℕ) → i < rows_of t → length_of t i < j → j ≤ order_limit → (field t i j ≡ pos 0 → ⊥) → Meets filling t row_words (suc i)
  -- "p out of range"
  row-probability : (i : ℕ) → i < rows_of t → in_probability (probability_at t i) ≡ false → Meets filling t row_probability (suc i)
  -- "b out of range, or not 0 where m = n"
  backoff_range : (i : ℕ) → i < rows_of t → in_backoff (backoff_at t i) ≡ false → Meets filling t row_backoff (suc i)
  backoff-longest : (i : ℕ) → i < rows_of t → length_of t i ≡ order_of t → (backoff_at t i ≡ pos 0 → ⊥) → Meets filling t row_backoff (suc i)
  -- "not after the row before"
  row-order : (i : ℕ) → suc i < rows_of t → precedes (words t i) (words t (suc i)) ≡ false → Meets filling t row_order (suc (suc i))
  -- "a shorter row missing": the one without its first word, or of a list to be filled that of its last word alone; or the one without its last word
  without_first_lem : (i : ℕ) → i < rows_of t → 2 ≤ length_of t i → NoRowBelow t i (without_firsts filling t i) → Meets filling t shorter_row (suc i)
  without_last_lem : (i : ℕ) → i < rows_of t → 2 ≤ length_of t i → NoRowBelow t i (without_last t i) → Meets filling t shorter_row (suc i)
  -- "word 1, 2 or 3 has no one-word row"
  no-unknown : NoRowBelow t (rows_of t) (unknown_word ∷ []) → Meets filling t reserved_word 0
  no_start : NoRowBelow t (rows_of t) (start_word ∷ []) → Meets filling t reserved_word 0
  no_end : NoRowBelow t (rows_of t) (end_word ∷ []) → Meets filling t reserved_word 0

-- "A list of rows is accepted if none of 1 and 3 to 9 meets it."
abbrev pub NoneMeets : Bool → List ℤ → Type 0
NoneMeets filling t = (n p : ℕ) → Meets filling t n p → ⊥

-- "1, .. then row by row 3 to 8, then 9": the refusals of a list of so many rows as they are tried, place by place, at one place by their numbers, and 9 behind
-- the last row
unfoldable pub turn : ℕ → ℕ → ℕ → ℕ
turn rows number place = 10 * cond (eqb number reserved_word) (suc rows) place + number

-- The number and the place that were answered for a list: a refused one meets what is answered, and nothing that is tried earlier.
pub record VerdictMeans (filling : Bool) (t : List ℤ) (number place : ℕ) : Type 0 where
  pub accepted : number ≡ 0 → NoneMeets filling t
  pub no_place : number ≡ 0 → place ≡ 0
  pub refused : (number ≡ 0 → ⊥) → Meets filling t number place
  pub earliest : (n p : ℕ) → Meets filling t n p → turn (rows_of t) number place ≤ turn (rows_of t) n p

-- The answer of the check: an accepted list is a model.
pub record CheckMeans (t : List ℤ) (number place : ℕ) : Type 0 where
  pub verdict : VerdictMeans false t number place
  pub model : number ≡ 0 → AcceptedModel (model_of t)
