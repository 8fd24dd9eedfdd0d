-- A mark for each row, from the first on and as far as there are marks: whether some row is this row followed by one more word. Only contracts of inner
-- functions cite these. Assumes nothing.
use Rattle.std.specs.declared.option.Option.{Option}
use Rattle.std.specs.declared.option.Option.TheVariants.{Some, None}
use Rattle.std.specs.Prelude.{◌≡◌, Bool, true, false, List, ℕ, ◌<◌, length, get_or, set, ℤ}
use Rattle.rows.specs.Table.{rows_of, words}
use Rattle.list.specs.ListModel.{continued_below}

-- the mark of the row found is set, if it has one
abbrev pub mark_found : Option ℕ → List Bool → List Bool
mark_found (Some j) marks = set marks j true
mark_found None marks = marks

abbrev pub NoneMarked : List Bool → Type 0
NoneMarked marks = (i : ℕ) → get_or marks i false ≡ false

-- the rows that rows 0 to k − 1 are without their last word are marked, and no others
abbrev pub Marked : List ℤ → ℕ → List Bool → Type 0
Marked t k marks = (i : ℕ) → i < rows_of t → i < length marks → get_or marks i false ≡ continued_below t (words t i) k
