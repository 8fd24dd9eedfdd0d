-- `totals_list::read_row`: a line in form is pasted.
use Rattle.std.proofs.Common.{◌≡◌, sym, refl, ◌∙◌, arith}
use Rattle.std.proofs.lemmas.Slice.{put_mid-paste}
use Rattle.totals_text.specs.Lines.{list_row}
use Rattle.totals_text.proofs.Lines.{list_line_length}
use Rattle.totals_list.proofs.read_row.Goals as goal

pub returns-then-not-read_list_line-clause-row : goal.returns-then-not-read_list_line-clause-row
returns-then-not-read_list_line-clause-row c = rw (sym c.read_list_line.ensures.answer ∙ c.if-not-read_list_line.true) refl

pub returns-clause-row : goal.returns-clause-row
returns-clause-row c =
    let line = c.args.line.now in
    let e = sym c.read_list_line.ensures.answer ∙ c.if-not-read_list_line.false in
    let row : c.read_list_line.new.row ≡ list_row line = c.read_list_line.ensures.numbers ∙ rw e refl in
    rw e (put_mid-paste c.args.at _ c.args.table.now _ (list_row line) 8 (c.copy_from_slice.ensures.after ∙ row) (omega arith) (sym (list_line_length line)))
