-- None of the first s has the total.
use Rattle.group_pairs.specs.Groups.{NoneBefore}
use Rattle.group_pairs.proofs.Group.first_with.Given as goal

abbrev pub invariant-loop-s : goal.invariant-loop-s
invariant-loop-s l = NoneBefore l.self.totals.now l.self.first l.self.weight l.total l.s
