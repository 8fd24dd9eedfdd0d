-- Where a row stands in a table, and what it holds. Assumes nothing.
use Rattle.std.specs.declared.option.Option.{Option}
use Rattle.std.specs.declared.option.Option.TheVariants.{Some, None}
use Rattle.std.specs.Prelude.{◌≡◌, Bool, true, false, cond, List, ℕ, zero, suc, ◌≤◌, length, ℤ}
use Rattle.backoff.specs.Limits.{order_limit}
use Rattle.backoff.specs.Words.{same_words, are_words}
use Rattle.rows.specs.Table.{rows_of, probability_at, backoff_at, words_of, words}
use Rattle.rows.specs.Good.{Good}
use Rattle.row_search.specs.declared.Row.{Row}

-- what a search asks for: a list, and at most five numbers, which are words
abbrev pub Searchable : List ℤ → List ℤ → Type 0
Searchable part zs = Good part (rows_of part) × (length zs ≤ order_limit) × (are_words (words_of zs) ≡ true)

-- the last of rows 0 to n − 1 whose words are ws
unfoldable pub find_below : List ℤ → List ℕ → ℕ → Option ℕ
find_below t ws zero = None
find_below t ws (suc n) = cond (same_words (words t n) ws) (Some n) (find_below t ws n)

-- the same in a whole table, or in a part of one: "searched only in the rows before it"
unfoldable pub find_in : List ℤ → List ℕ → Option ℕ
find_in t ws = find_below t ws (rows_of t)

abbrev pub is_at : Option ℕ → Bool
is_at (Some i) = true
is_at None = false

-- what the table has of a sequence that was searched for
unfoldable pub found_row : List ℤ → Option ℕ → Option Row
found_row t (Some i) = Some (record { at = i; p = probability_at t i; b = backoff_at t i })
found_row t None = None
