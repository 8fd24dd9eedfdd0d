-- `columns::read_column`: an answer that is the text's reading has the meaning of one.
use Rattle.std.proofs.Common.{◌≡◌, ℕ, List, length, None, sym, refl, ap, subst, ◌∙◌}
use borrow.Author.Tests.{eq-eqb, ne_eqb}
use Rattle.columns.specs.Columns.{without_spaces, read_numeral, read_column, ColumnMeans}
use Rattle.columns.proofs.Columns.{column_means}
use Rattle.columns.proofs.read_column.Goals as goal

other_width : (width : ℕ) (text : List ℕ) → (length text ≡ width → ⊥) → None ≡ read_column width text
unfolding read_column
other_width width text n = rw (ne_eqb (length text) width n) refl

pub returns-then-text-width : goal.returns-then-text-width
returns-then-text-width c =
    let e = other_width c.args.width c.args.text.now c.if-text-width.true in
    record { answer = e; meaning = subst (ColumnMeans c.args.width c.args.text.now) (sym e) (column_means c.args.width c.args.text.now) }

same_width : (width : ℕ) (text : List ℕ) → length text ≡ width → read_numeral (without_spaces text) ≡ read_column width text
unfolding read_column
same_width width text e = rw (eq-eqb (length text) width e) refl

pub returns : goal.returns
returns c =
    let e = c.read_numeral.ensures ∙ ap read_numeral c.without_spaces.ensures.rest ∙ same_width c.args.width c.args.text.now c.if-text-width.false in
    record { answer = e; meaning = subst (ColumnMeans c.args.width c.args.text.now) (sym e) (column_means c.args.width c.args.text.now) }
