-- The longer ends passed, so what is left are the shorter ones.
use Rattle.row_ends.proofs.Needed.{Passed}
use Rattle.row_ends.proofs.all_addable.Given as goal

abbrev pub invariant-loop-m : goal.invariant-loop-m
invariant-loop-m l = Passed l.table l.i l.k l.m
