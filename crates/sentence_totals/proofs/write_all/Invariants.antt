-- The sentences of the first g groups are written.
use Rattle.double_array.specs.DoubleArray.{opened}
use Rattle.sentence_order.specs.Usable.{listed}
use Rattle.sentence_totals.specs.Inner.{AllWritten}
use Rattle.sentence_totals.proofs.Groups.{in_groups}
use Rattle.sentence_totals.proofs.write_all.Given as goal

abbrev pub invariant-loop-g : goal.invariant-loop-g
invariant-loop-g l = AllWritten (opened l.array.base.now l.array.check.now) (in_groups (listed l.usable) l.k l.g) l.initial.words l.initial.totals l.words l.totals
