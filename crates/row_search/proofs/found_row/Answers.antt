-- A row has its p and b at the last two places.
use Rattle.std.proofs.Common.{rules, arith}
use Rattle.std.proofs.lemmas.Int.{ints, to_z-of_z}
use Rattle.row_search.specs.Search.{found_row}
use Rattle.row_search.proofs.found_row.Goals as goal

pub returns-in_err-i : goal.returns-in_err-i
unfolding found_row
returns-in_err-i c = search rules

pub returns : goal.returns
unfolding found_row
returns c = grind (arith, ints, to_z-of_z)
