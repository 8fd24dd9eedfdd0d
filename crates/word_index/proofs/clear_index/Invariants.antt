-- The first i rows are cleared. Assumes nothing.
use Rattle.std.proofs.Common.{◌≡◌}
use Rattle.word_index.specs.Index.{cleared}
use Rattle.word_index.proofs.clear_index.Given as goal

abbrev pub invariant-loop-i : goal.invariant-loop-i
invariant-loop-i l = l.table ≡ cleared l.initial.table l.i
