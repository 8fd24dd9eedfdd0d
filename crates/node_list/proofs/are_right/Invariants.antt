-- The markers passed are right.
use Rattle.std.proofs.Common.{◌≡◌, drop}
use Rattle.node_list.specs.Steps.{marks_right}
use Rattle.node_list.proofs.are_right.Given as goal

abbrev pub invariant-loop-i : goal.invariant-loop-i
invariant-loop-i l = marks_right l.array.base.now l.array.check.now l.table l.marks 0 l.work ≡ marks_right l.array.base.now l.array.check.now l.table l.marks l.i (drop l.i l.work)
