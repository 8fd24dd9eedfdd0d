-- Which rows need a row whose p is outside its range: "After 9, a p outside its range gives 5 at the first row that needs it". Assumes nothing.
use Rattle.std.specs.Prelude.{Bool, true, cond, ◌&&◌, ◌||◌, List, [], ◌∷◌, ℕ, ℤ}
use Rattle.backoff.specs.Refusal.{row_probability}
use Rattle.backoff.specs.Model.{in_probability}
use Rattle.rows.specs.Table.{words}
use Rattle.row_search.specs.Search.{find_in, is_at}
use Rattle.filled_list.specs.Filled.{without_first_words, added_probability}

-- a row is listed, or its p is in range when it is added
unfoldable pub addable : List ℤ → List ℕ → Bool
addable t ws = is_at (find_in t ws) || in_probability (added_probability t ws)

unfoldable pub all_addable : List ℤ → List (List ℕ) → Bool
all_addable t [] = true
all_addable t (ws ∷ rows) = addable t ws && all_addable t rows

-- 5 at row i of the lent list: a row that it needs has a p outside its range
unfoldable pub needed_fault : List ℤ → ℕ → ℕ
needed_fault t i = cond (all_addable t (without_first_words (words t i))) 0 row_probability
