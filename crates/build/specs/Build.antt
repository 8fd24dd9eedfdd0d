-- The outcome of build, for every table and all lent slices: 1, 2, then row by row 3 to 8, then 9, 10. Assumes nothing.
use Rattle.std.specs.Prelude.{cond, ◌&&◌, List, ℕ, leb, length, ℤ}
use Rattle.backoff.specs.Refusal.{table_length, array_length}
use Rattle.backoff.specs.Refusal.{Refused}
use Rattle.rows.specs.Table.{rows_of}
use Rattle.list.specs.Check.{table_fits, verdict}
use Rattle.double_array.specs.DoubleArray.{sizes_ok}
use Rattle.placed_list.specs.Build.{Built, untouched, checked_build}

module _ (table base check : List ℤ) (work : List ℕ) where
  -- 2: "BASE and CHECK differ in length, N out of range, work shorter than the rows"
  unfoldable pub build_outcome : Built
  build_outcome =
      cond (table_fits (length table))
      (cond (sizes_ok base check && leb (rows_of table) (length work)) (checked_build table base check work (verdict table)) (untouched table base check work (Refused array_length 0)))
      (untouched table base check work (Refused table_length 0))
