-- The search by key: where the row with a key stands, and where a search for it has come to. Only contracts of inner functions cite these. Assumes nothing.
use Rattle.std.specs.declared.option.Option.{Option}
use Rattle.std.specs.declared.option.Option.TheVariants.{Some, None}
use Rattle.std.specs.Prelude.{cond, List, ℕ, zero, suc, ◌<◌, ◌≤◌, eqb, ℤ}
use Rattle.rows.specs.Table.{rows_of}
use Rattle.rows.specs.Keys.{row_key}

-- the row among rows 0 to n − 1 whose key is k
unfoldable pub find_key : List ℤ → ℕ → ℕ → Option ℕ
find_key t k zero = None
find_key t k (suc n) = cond (eqb (row_key t n) k) (Some n) (find_key t k n)

-- where a search for k has come to: rows below `from` have keys below k, rows from `to` on have not
pub record Bracket (t : List ℤ) (k from to : ℕ) : Type 0 where
  pub order : from ≤ to
  pub within : to ≤ rows_of t
  pub below : (j : ℕ) → j < from → row_key t j < k
  pub above : (j : ℕ) → to ≤ j → j < rows_of t → k ≤ row_key t j

-- where k is, or nowhere: rows below `from` have keys below k, rows from `to` on have keys above k
pub record Window (t : List ℤ) (k from to : ℕ) : Type 0 where
  pub within : to ≤ rows_of t
  pub below : (j : ℕ) → j < from → row_key t j < k
  pub above : (j : ℕ) → to ≤ j → j < rows_of t → k < row_key t j
