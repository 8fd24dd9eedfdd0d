-- `totals_text::read_list_line`: a line in form is its row, and another leaves the row as it was.
use Rattle.std.proofs.Common.{◌≡◌, ℕ, ℤ, ◌*◌, Bool, true, false, cond, eqb, List, length, sym, refl, subst, ◌∙◌}
use borrow.Author.Tests.{eq-eqb, ne_eqb}
use Rattle.integer.proofs.Arithmetic.{and_no}
use Rattle.integer.proofs.Ranges.{and_both}
use Rattle.columns.specs.Columns.{least_number}
use Rattle.totals_text.specs.Lines.{list_width, columns, all_in_form, is_list_line, list_row, ListLineMeans}
use Rattle.totals_text.proofs.Lines.{list_line_means}
use Rattle.totals_text.proofs.read_list_line.Goals as goal

-- what the contract says of an answer and the row as it is left
record Settled (line : List ℕ) (row₀ : List ℤ) (r : Bool) (row : List ℤ) : Type 0 where
  answer : r ≡ is_list_line line
  numbers : row ≡ cond (is_list_line line) (list_row line) row₀
  meaning : ListLineMeans line r row

refused : (line : List ℕ) (row : List ℤ) → is_list_line line ≡ false → Settled line row false row
refused line row e = record { answer = sym e; numbers = rw e refl; meaning = rw e at (list_line_means line row) }

accepted : (line : List ℕ) (row₀ row : List ℤ) → is_list_line line ≡ true → row ≡ list_row line → Settled line row₀ true row
accepted line row₀ row e f = record { answer = sym e; numbers = rw e f; meaning = subst (ListLineMeans line true) (sym f) (rw e at (list_line_means line row₀)) }

pub returns-then-line-ne-LIST_LINE : goal.returns-then-line-ne-LIST_LINE
unfolding is_list_line
returns-then-line-ne-LIST_LINE c =
    let a = c.args in
    let s = refused a.line.now a.row.now (rw (ne_eqb (length a.line.now) (8 * list_width) c.if-line-ne-LIST_LINE.true) refl) in
    record { answer = s.answer; numbers = s.numbers; meaning = s.meaning }

pub returns-then-not-read_columns : goal.returns-then-not-read_columns
unfolding is_list_line
returns-then-not-read_columns c =
    let a = c.args in
    let s = refused a.line.now a.row.now (and_no (eqb (length a.line.now) (8 * list_width)) (all_in_form least_number (columns list_width 8 a.line.now)) (sym c.read_columns.ensures.answer ∙ c.if-not-read_columns.true)) in
    record { answer = s.answer; numbers = s.numbers; meaning = s.meaning }

pub returns : goal.returns
unfolding is_list_line list_row
returns c =
    let line = c.args.line.now in
    let s = accepted line c.args.row.now c.read_columns.new.numbers
    (and_both (eqb (length line) (8 * list_width)) (all_in_form least_number (columns list_width 8 line)) (eq-eqb (length line) (8 * list_width) c.if-line-ne-LIST_LINE.false) (sym c.read_columns.ensures.answer ∙ c.if-not-read_columns.false))
    (c.read_columns.ensures.numbers c.if-not-read_columns.false) in
    record { answer = s.answer; numbers = s.numbers; meaning = s.meaning }
