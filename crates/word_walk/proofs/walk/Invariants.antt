use Rattle.std.proofs.Common.{◌-◌}
use Rattle.word_walk.proofs.Turning.{Loop}
use Rattle.word_walk.proofs.walk.Given as goal

abbrev pub invariant-loop-passed : goal.invariant-loop-passed
invariant-loop-passed l = Loop l.base l.check l.fn.slot l.count l.initial.older l.fn.backoffs l.backoffs l.older l.owed l.s l.passed l.sum l.kept

abbrev pub decreases-loop-passed : goal.decreases-loop-passed
decreases-loop-passed l = l.count - l.passed
