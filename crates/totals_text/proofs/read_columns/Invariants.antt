-- `totals_text::read_columns`: all columns are in form where those from i on are, and these make, with those that are stored, all numbers.
use Rattle.std.proofs.Common.{◌≡◌, ◌*◌, ◌-◌, length, drop}
use Rattle.totals_text.specs.Lines.{columns, all_in_form, column_value}
use Rattle.totals_text.proofs.Lines.{Filling}
use Rattle.totals_text.proofs.read_columns.Given as goal

abbrev pub invariant-loop-i : goal.invariant-loop-i
invariant-loop-i l = record {
  left : all_in_form l.least (columns l.width (length l.fn.numbers) l.line) ≡ all_in_form l.least (columns l.width (length l.fn.numbers - l.i) (drop (l.width * l.i) l.line));
  filling : Filling column_value l.width l.line (length l.fn.numbers) l.fn.numbers l.numbers l.i;
}
