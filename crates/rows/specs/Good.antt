-- What checks 3, 4 and 7 leave of the rows: a search in them asks for it. Assumes nothing.
use Rattle.std.specs.Prelude.{◌≡◌, true, List, ℕ, ◌<◌, ℤ}
use Rattle.backoff.specs.Limits.{order_limit}
use Rattle.rows.specs.Table.{length_of, words, places_fit}
use Rattle.rows.specs.Order.{precedes}

-- row i has a length, words in its used places and 0 in the others
pub record GoodRow (t : List ℤ) (i : ℕ) : Type 0 where
  pub some : 0 < length_of t i
  pub places : places_fit t i 1 order_limit ≡ true

-- rows 0 to n − 1 are such rows, and ascend
pub record Good (t : List ℤ) (n : ℕ) : Type 0 where
  pub row : (i : ℕ) → i < n → GoodRow t i
  pub ascend : (i j : ℕ) → i < j → j < n → precedes (words t i) (words t j) ≡ true
