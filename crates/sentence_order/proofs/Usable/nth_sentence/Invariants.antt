-- The words from the j-th on are there.
use Rattle.sentence_order.specs.Usable.{listed}
use Rattle.sentence_order.proofs.NthSentence.{Filling}
use Rattle.sentence_order.proofs.Usable.nth_sentence.Given as goal

abbrev pub invariant-loop-j : goal.invariant-loop-j
invariant-loop-j l = Filling (listed l.self) l.k l.i l.sentence l.rest l.j
