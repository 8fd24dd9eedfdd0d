use Rattle.std.proofs.Common.{[], ◌∷◌}
use Rattle.backoff.specs.Limits.{end_word}
use Rattle.double_array.specs.DoubleArray.{store_in}
use Rattle.carried_state.specs.Packed.{held_in}
use Rattle.sums.proofs.Closing.{Closing}
use Rattle.sums.proofs.sum_closed.Given as goal

abbrev pub invariant-loop-word : goal.invariant-loop-word
invariant-loop-word l = Closing (store_in l.fn.array.base.now l.fn.array.check.now) (held_in l.fn.carried l.fn.backoffs) (l.fn.last ∷ end_word ∷ []) l.carried l.backoffs l.total l.word-index
