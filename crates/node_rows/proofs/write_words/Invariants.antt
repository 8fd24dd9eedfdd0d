use Rattle.node_rows.proofs.Placing.{Placed}
use Rattle.node_rows.proofs.write_words.Given as goal

abbrev pub invariant-loop-j : goal.invariant-loop-j
invariant-loop-j l = Placed l.array.base.now l.array.check.now l.t l.s l.m l.j l.row
