-- Runs over the array that a build of the filled list left, against the pruned list, over the outcomes that the contracts of fill, build, start and run cite.
-- Assumes nothing.
use Rattle.std.specs.declared.option.Option.{Option}
use Rattle.std.specs.Prelude.{Bool, List, ◌*◌, take, ℤ}
use Rattle.backoff.specs.Model.{Model}
use Rattle.backoff.specs.Run.{Run}
use Rattle.backoff.specs.Store.{Store}
use Rattle.filling.specs.Fill.{Filled}
use Rattle.theorems.specs.RunsInARow.{PointsInARow}

-- the list that an accepted filling left: as many rows of the second table as it returned
unfoldable pub filled_list : Filled → List ℤ
filled_list o = take (8 * o.rows) o.table

-- Runs over the array, with M the pruned list: start is accepted, only 14 and 15 refuse a run, and each joined word has the points that the back-off rule
-- gives it over the pruned list.
abbrev pub PrunedRuns : Option Store → Model → Bool → List ℤ → List Run → Type 0
PrunedRuns array M started lent rs = PointsInARow array M started lent rs
