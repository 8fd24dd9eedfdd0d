-- The back-offs of the histories passed are owed, and the rule goes on with the rest, which is no row if there is any.
use Rattle.row_ends.proofs.Owed.{Passed}
use Rattle.row_ends.proofs.end_points.Given as goal

abbrev pub invariant-loop-at : goal.invariant-loop-at
invariant-loop-at l = Passed l.table l.from l.past l.owed l.at
