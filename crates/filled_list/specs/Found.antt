-- Which row of the filled list comes next, if any, as the code says it. Only contracts of inner functions cite these. Assumes nothing.
use Rattle.std.specs.declared.option.Option.{Option}
use Rattle.std.specs.declared.option.Option.TheVariants.{Some, None}
use Rattle.std.specs.Prelude.{List, ℕ, suc, ◌<◌, ◌≤◌, ℤ}
use Rattle.rows.specs.Table.{rows_of}
use Rattle.filled_list.specs.declared.NextRow.{NextRow}
use Rattle.filled_list.specs.declared.NextEnd.{NextEnd}
use Rattle.filled_list.specs.Next.{Best, ComesNext}

-- the best row, None where there is none
abbrev pub BestOf : List ℤ → ℕ → ℕ → ℕ → Option NextRow → Type 0
BestOf t m floor to (Some next) = (next.row < rows_of t) × Best t m floor to next.row next.key.high next.key.low
BestOf t m floor to None = Best t m floor to (rows_of t) 0 0

-- the words that come next, None where no row is left
abbrev pub ComesNextOf : List ℤ → ℕ → ℕ → Option NextEnd → Type 0
ComesNextOf t n place (Some next) = (next.words ≤ n) × ComesNext t n place next.words next.row next.key.high next.key.low
ComesNextOf t n place None = ComesNext t n place (suc n) (rows_of t) 0 0
