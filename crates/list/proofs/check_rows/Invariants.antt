-- The rows passed have no fault, so the verdict is that of the rest; and if all are a list, the rows are marked that they are without their last word.
use Rattle.std.proofs.Common.{◌≡◌, ◌-◌, length}
use Rattle.backoff.specs.Refusal.{Accepted}
use Rattle.rows.specs.Table.{rows_of}
use Rattle.rows.specs.Good.{Good}
use Rattle.list.specs.Check.{scan, verdict_for}
use Rattle.list.specs.Marks.{Marked}
use Rattle.list.proofs.check_rows.Given as goal

abbrev pub invariant-loop-i : goal.invariant-loop-i
invariant-loop-i l = record {
  long : length l.marks ≡ length l.initial.marks;
  good : Good l.table l.i;
  rest : verdict_for l.filling l.table ≡ scan l.filling l.table l.n l.i (rows_of l.table - l.i);
  marks : verdict_for l.filling l.table ≡ Accepted → Marked l.table l.i l.marks;
}
