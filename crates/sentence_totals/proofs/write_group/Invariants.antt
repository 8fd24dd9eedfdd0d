-- The first j sentences of the group are written.
use Rattle.std.proofs.Common.{◌-◌, take}
use Rattle.double_array.specs.DoubleArray.{opened}
use Rattle.sentence_order.specs.Sentences.{ended_by}
use Rattle.sentence_order.specs.Inner.{sentence_at}
use Rattle.sentence_order.specs.Usable.{listed}
use Rattle.sentence_totals.specs.Inner.{AllWritten}
use Rattle.sentence_totals.proofs.write_group.Given as goal

abbrev pub invariant-loop-j : goal.invariant-loop-j
invariant-loop-j l =
    AllWritten (opened l.array.base.now l.array.check.now) (take l.j (ended_by (listed l.usable) (sentence_at (listed l.usable) (l.k - 1) l.g))) l.initial.words l.initial.totals l.words l.totals
