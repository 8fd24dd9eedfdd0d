-- How the code holds a score. Only contracts of inner functions cite it. Assumes nothing.
use Rattle.std.specs.Prelude.{◌≡◌, Bool, List, ℕ, ◌<◌, ℤ}
use Rattle.backoff.specs.Rule as rule
use Rattle.rows.specs.Table.{rows_of, words}
use Rattle.list.specs.ListModel.{extended_in}
use Rattle.plain_word.specs.declared.Score.{Score}

-- row i of the list t, of which e says whether it is extended
pub record IsExtended (t : List ℤ) (i : ℕ) (e : Bool) : Type 0 where
  pub within : i < rows_of t
  pub extended-is : extended_in t (words t i) ≡ e

-- the score s in the list t
pub record IsScore (t : List ℤ) (s : rule.Score) (r : Score) : Type 0 where
  pub points_are : r.points ≡ s.points
  pub matched-is : r.matched ≡ s.matched
  pub row_is : IsExtended t r.row s.extended
