-- The filled list: which rows it has, in which order, and with which p and b. Words are oldest first, as in the list. Assumes nothing.
use Rattle.std.specs.declared.option.Option.{Option}
use Rattle.std.specs.declared.option.Option.TheVariants.{Some, None}
use Rattle.std.specs.Prelude.{cond, List, [], ◌∷◌, ◌++◌, reverse, ℕ, zero, suc, leb, length, ℤ, pos}
use Rattle.backoff.specs.Words.{same_words}
use Rattle.rows.specs.Table.{rows_of, probability_at, backoff_at, words, row}
use Rattle.rows.specs.Order.{precedes}
use Rattle.row_search.specs.Search.{find_in}
use Rattle.list.specs.ListModel.{model_of}
use Rattle.filled_list.specs.Added.{own_points}

-- ---- which rows

-- the words of the k rows from row i on
unfoldable pub rows_from : List ℤ → ℕ → ℕ → List (List ℕ)
rows_from t i zero = []
rows_from t i (suc k) = words t i ∷ rows_from t (suc i) k

-- "each .. row of two or more words that is some listed row without its first words": those of one row, the longest first
unfoldable pub without_first_words : List ℕ → List (List ℕ)
without_first_words [] = []
without_first_words (w ∷ ws) = cond (leb 2 (length ws)) (ws ∷ without_first_words ws) []

-- those of all rows
unfoldable pub all_without_first_words : List (List ℕ) → List (List ℕ)
all_without_first_words [] = []
all_without_first_words (ws ∷ rows) = without_first_words ws ++ all_without_first_words rows

-- a sequence put where it belongs among ascending rows, unless it is there
unfoldable pub insert : List ℕ → List (List ℕ) → List (List ℕ)
insert ws [] = ws ∷ []
insert ws (vs ∷ rows) = cond (precedes ws vs) (ws ∷ vs ∷ rows) (cond (same_words ws vs) (vs ∷ rows) (vs ∷ insert ws rows))

unfoldable pub insert_all : List (List ℕ) → List (List ℕ) → List (List ℕ)
insert_all [] rows = rows
insert_all (ws ∷ more) rows = insert ws (insert_all more rows)

-- the rows of the filled list: the lent ones, and each absent one that is some lent row without its first words
unfoldable pub filled_rows : List ℤ → List (List ℕ)
filled_rows t = insert_all (all_without_first_words (rows_from t 0 (rows_of t))) (rows_from t 0 (rows_of t))

-- ---- with which p and b

-- "Its p is the points that the unfilled list gives its last word after the words before it"
unfoldable pub added_probability : List ℤ → List ℕ → ℤ
added_probability t ws = own_points (model_of t) (reverse ws)

-- a lent row's own, and "its b is 0" of an added one
abbrev pub filled_probability : List ℤ → List ℕ → Option ℕ → ℤ
filled_probability t ws (Some i) = probability_at t i
filled_probability t ws None = added_probability t ws

abbrev pub filled_backoff : List ℤ → Option ℕ → ℤ
filled_backoff t (Some i) = backoff_at t i
filled_backoff t None = pos 0

unfoldable pub filled_row : List ℤ → List ℕ → List ℤ
filled_row t ws = row ws (filled_probability t ws (find_in t ws)) (filled_backoff t (find_in t ws))

unfoldable pub table_of : List ℤ → List (List ℕ) → List ℤ
table_of t [] = []
table_of t (ws ∷ rows) = filled_row t ws ++ table_of t rows

-- the filled list as a table
unfoldable pub filled_table : List ℤ → List ℤ
filled_table t = table_of t (filled_rows t)
