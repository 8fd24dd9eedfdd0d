use Rattle.std.proofs.Common.{◌-◌, length}
use Rattle.double_array.specs.DoubleArray.{store_in}
use Rattle.carried_state.specs.Numbers.{numbers_of}
use Rattle.sums.proofs.Turn.{Loop}
use Rattle.sums.proofs.sum_words.Given as goal

abbrev pub invariant-loop-from : goal.invariant-loop-from
invariant-loop-from l = Loop (store_in l.fn.array.base.now l.fn.array.check.now) (numbers_of l.fn.state) l.words (numbers_of l.ran.end) l.ran.total l.from l.points l.lengths

abbrev pub decreases-loop-from : goal.decreases-loop-from
decreases-loop-from l = length l.words - l.from
