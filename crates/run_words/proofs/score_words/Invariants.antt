use Rattle.backoff.specs.NineNumbers.{state_in}
use Rattle.double_array.specs.DoubleArray.{store_in}
use Rattle.carried_state.specs.Numbers.{numbers_of}
use Rattle.run_words.proofs.Turn.{Loop}
use Rattle.run_words.proofs.score_words.Given as goal

abbrev pub invariant-loop-i : goal.invariant-loop-i
invariant-loop-i l = Loop l.fn.array.check.now (store_in l.fn.array.base.now l.fn.array.check.now) (state_in (numbers_of l.fn.state)) l.words l.fn.points l.fn.lengths l.carried l.backoffs l.total l.ahead l.i l.points l.lengths
