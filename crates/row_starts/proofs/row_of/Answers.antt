-- No row has more words than a row may have, and the search among good rows finds a row.
use Rattle.std.proofs.Common.{sym, ap, ◌∙◌, arith}
use lib.ListN.{length-map}
use Rattle.rows.specs.Table.{words_of}
use Rattle.row_search.specs.Search.{found_row}
use Rattle.row_search.proofs.Search.{found-words, finds_no_longer}
use Rattle.list.proofs.Check.{accepted-good}
use Rattle.row_starts.proofs.row_of.Goals as goal

pub returns-then-words-gt-LONGEST_ROW : goal.returns-then-words-gt-LONGEST_ROW
unfolding words_of found_row
returns-then-words-gt-LONGEST_ROW c = sym (ap (found_row _) (finds_no_longer _ _ (rw length-map c.if-words-gt-LONGEST_ROW.true)))

pub find_among-found-requires : goal.find_among-found-requires
find_among-found-requires c = (accepted-good _ c.requires.0, omega (arith, c.if-words-gt-LONGEST_ROW.false), c.requires.1)

pub found_row-requires : goal.found_row-requires
found_row-requires c = λ i e. (found-words _ _ i (sym c.find_among-found.ensures ∙ e)).0
