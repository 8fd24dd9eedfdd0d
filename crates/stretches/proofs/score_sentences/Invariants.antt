-- The sentences before the i-th are scored, each on its own stretch.
use Rattle.double_array.specs.DoubleArray.{opened}
use Rattle.stretches.proofs.Sentences.{Batching}
use Rattle.stretches.proofs.score_sentences.Given as goal

abbrev pub invariant-loop-i : goal.invariant-loop-i
invariant-loop-i l =
    Batching (opened l.array.base.now l.array.check.now) l.ends (record { words = l.words; points = l.initial.points; lengths = l.initial.lengths }) l.from l.i l.total l.points l.lengths l.counts
