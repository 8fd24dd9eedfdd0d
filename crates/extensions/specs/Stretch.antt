-- The rows that put one more word in front of a row: in list order they are a stretch. Assumes nothing.
use Rattle.std.specs.Prelude.{◌≡◌, List, ℕ, ◌*◌, ◌<◌, ◌≤◌, ℤ}
use Rattle.backoff.specs.Words.{radix}
use Rattle.rows.specs.Table.{rows_of, words, without_first}
use Rattle.rows.specs.Keys.{row_key}
use Rattle.row_search.specs.ByKey.{Bracket}

-- rows from to to − 1 are those that put one more word in front of row i
pub record Stretch (t : List ℤ) (i from to : ℕ) : Type 0 where
  pub order : from ≤ to
  pub within : to ≤ rows_of t
  pub inside : (j : ℕ) → from ≤ j → j < to → without_first t j ≡ words t i
  pub only : (j : ℕ) → j < rows_of t → without_first t j ≡ words t i → (from ≤ j) × (j < to)

-- the rows that put one more word in front of row i or of a later row begin at `from`
abbrev pub ChildrenFrom : List ℤ → ℕ → ℕ → Type 0
ChildrenFrom t i from = Bracket t (radix * row_key t i) from from
