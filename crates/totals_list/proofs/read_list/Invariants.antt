-- `totals_list::read_list`: the rows so far stand in the table.
use Rattle.std.proofs.Common.{◌-◌, length}
use Rattle.totals_list.proofs.Listing.{Reading}
use Rattle.totals_list.proofs.read_list.Given as goal

abbrev pub invariant-loop-at : goal.invariant-loop-at
invariant-loop-at l = Reading l.text l.table l.at l.i

abbrev pub decreases-loop-at : goal.decreases-loop-at
decreases-loop-at l = length l.text - l.at
