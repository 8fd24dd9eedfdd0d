-- `totals_lines::feed`: the characters so far have printed what stands in `out`, and the line that has begun stands in `line`.
use Rattle.std.proofs.Common.{◌≡◌, false}
use Rattle.word_walk.specs.Rows.{array_model}
use Rattle.totals_lines.proofs.Feeding.{Feeding}
use Rattle.totals_lines.proofs.feed.Given as goal

abbrev pub invariant-loop-c : goal.invariant-loop-c
invariant-loop-c l = record {
  feeding : Feeding (array_model l.base l.check) l.piece l.fn.progress.number l.fn.progress.count l.fn.line l.line l.out l.after.number l.after.count l.after.written l.c-index;
  onward : l.after.ended ≡ false;
}
