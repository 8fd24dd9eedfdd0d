-- The range of the first s of the group.
use Rattle.group_pairs.specs.Groups.{Spans}
use Rattle.group_pairs.proofs.Group.range.Given as goal

abbrev pub invariant-loop-s : goal.invariant-loop-s
invariant-loop-s l = Spans l.self.totals.now l.self.first l.self.weight l.s l.low l.high
