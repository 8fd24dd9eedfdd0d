-- Which row of the filled list comes next: last words of lent rows, by their keys. Only contracts of inner functions cite these. Assumes nothing.
use Rattle.std.specs.Prelude.{◌≡◌, List, ℕ, zero, suc, ◌*◌, ◌-◌, ◌≤◌, ◌<◌, drop, ℤ}
use Rattle.backoff.specs.Words.{radix, key}
use Rattle.rows.specs.Table.{rows_of, length_of, order_of, words}
use Rattle.rows.specs.Keys.{key_of}
use Rattle.row_search.specs.ByKey.{Bracket}
use Rattle.filled_list.specs.Filled.{filled_table}

-- the key k with j zeros put in front
unfoldable pub zeros : ℕ → ℕ → ℕ
zeros zero k = k
zeros (suc j) k = radix * zeros j k

-- the least number above the keys of j words
unfoldable pub power : ℕ → ℕ
power j = zeros j 1

-- the last m words of row i
unfoldable pub last_words : List ℤ → ℕ → ℕ → List ℕ
last_words t i m = drop (length_of t i - m) (words t i)

abbrev pub end_key : List ℤ → ℕ → ℕ → ℕ
end_key t i m = key (last_words t i m)

-- row i has m words or more, but fewer than `to`, and the key of its last m words is not below `floor`
pub record Candidate (t : List ℤ) (m floor to i : ℕ) : Type 0 where
  pub within : i < rows_of t
  pub long : m ≤ length_of t i
  pub short : length_of t i < to
  pub above : floor ≤ end_key t i m

-- of the candidates, row r has the least last m words; there are none if r is the number of rows
pub record Least (t : List ℤ) (m floor to r : ℕ) : Type 0 where
  pub within : r ≤ rows_of t
  pub one : r < rows_of t → Candidate t m floor to r
  pub least : (i : ℕ) → Candidate t m floor to i → (r < rows_of t) × (end_key t r m ≤ end_key t i m)

-- the same with the key of these words, as the code holds it; of more than m words it is only if no row of m words has them
pub record Best (t : List ℤ) (m floor to row high low : ℕ) : Type 0 where
  pub least : Least t m floor to row
  pub key-is : row < rows_of t → key_of high low ≡ end_key t row m
  pub absent : row < rows_of t → m < length_of t row → (i : ℕ) → i < rows_of t → length_of t i ≡ m → end_key t i m ≡ end_key t row m → ⊥

-- filling under way: the rows of the filled list ahead of row `place` are done, and the next one has m words or more, and a key from the floor on
pub record Filling (t : List ℤ) (n m high low place : ℕ) : Type 0 where
  pub order_is : n ≡ order_of t
  pub some : 0 < m
  pub within : m ≤ suc n
  pub from : power (m - 1) ≤ key_of high low
  pub to : key_of high low ≤ power m
  pub bracket : Bracket (filled_table t) (key_of high low) place place

-- what was found from a floor on: the last m words of the row come next, with their key; no row is left if m is above the order
pub record ComesNext (t : List ℤ) (n place m row high low : ℕ) : Type 0 where
  pub floor_high : ℕ
  pub floor_low : ℕ
  pub filling : Filling t n m floor_high floor_low place
  pub one : m ≤ n → row < rows_of t
  pub best : m ≤ n → Best t m (key_of floor_high floor_low) (suc n) row high low
