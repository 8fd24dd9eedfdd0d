-- A search among good rows.
use Rattle.std.proofs.Common.{sym, ap, ◌∙◌, arith, true}
use lib.ListN.{length-take}
use Rattle.row_search.specs.Search.{found_row}
use Rattle.row_search.proofs.Search.{found-words}
use Rattle.list.proofs.Check.{checked-good}
use Rattle.row_ends.specs.Points.{words_from}
use Rattle.row_ends.proofs.row_of.Goals as goal

pub find_row-found-requires : goal.find_row-found-requires
unfolding words_from
find_row-found-requires c = let p = c.requires in (checked-good true _ p.0, rw length-take (omega arith), p.4)

pub found_row-requires : goal.found_row-requires
found_row-requires c = λ i e. (found-words _ _ i (sym c.find_row-found.ensures ∙ e)).0

pub returns : goal.returns
unfolding words_from
returns c = c.found_row.ensures ∙ ap (found_row _) c.find_row-found.ensures
