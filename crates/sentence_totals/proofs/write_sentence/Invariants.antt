-- The first j words are copied, as far as there are so many.
use Rattle.std.proofs.Common.{◌≡◌, min}
use lib.Seq.{paste}
use Rattle.sentence_totals.proofs.write_sentence.Given as goal

abbrev pub invariant-loop-j : goal.invariant-loop-j
invariant-loop-j l = l.words ≡ paste l.fn.words l.at l.first (min l.j l.count)
