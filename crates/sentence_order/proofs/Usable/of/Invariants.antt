-- The array holds the usable words below w.
use Rattle.std.proofs.Common.{◌-◌}
use Rattle.sentence_order.specs.Inner.{usable_child}
use Rattle.sentence_order.proofs.UsableWords.{Holding}
use Rattle.sentence_order.proofs.Usable.of.Given as goal

abbrev pub invariant-loop-w : goal.invariant-loop-w
invariant-loop-w l = Holding (usable_child l.array.check.now) l.words l.count (l.w - 1)
