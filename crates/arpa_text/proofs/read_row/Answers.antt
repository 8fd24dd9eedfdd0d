-- `arpa_text::read_row`, by the fields of the line.
use Rattle.std.proofs.Common.{◌≡◌, ◌+◌, drop, Some, None, sym, refl, ap, ◌∙◌, w32, rules}
use mir.Val.{to_z, of_z}
use borrow.Author.Rules.{part_to_end}
use Rattle.text_parts.specs.Parts.{before}
use Rattle.arpa_text.specs.Lines.{read_row}
use Rattle.arpa_text.specs.Held.{backoff_behind, listed_at}
use Rattle.arpa_text.proofs.Lines.{no-backoff, no_row, row_read}
use Rattle.arpa_text.proofs.read_row.Goals as goal

pub returns-in_err-tab-clause-row : goal.returns-in_err-tab-clause-row
unfolding read_row
returns-in_err-tab-clause-row c = ap (listed_at c.args.line.now) c.from_residual.ensures ∙ sym (no_row c.args.m c.args.line.now c.in_err-tab.ensures)

pub returns-in_err-p-clause-row : goal.returns-in_err-p-clause-row
returns-in_err-p-clause-row c =
    let line = c.args.line.now in
    let tab = c.in_ok-tab.tab in
    let e = c.in_ok-tab.ensures in
    ap (listed_at line) c.from_residual-in_err-p.ensures
    ∙ sym (row_read c.args.m line tab (tab + 1 + before 9 (drop (tab + 1) line)) e.0 e.1 refl ∙ rw (sym c.in_err-p.ensures) refl)

pub returns-in_err-b-clause-row : goal.returns-in_err-b-clause-row
returns-in_err-b-clause-row c =
    let line = c.args.line.now in
    let tab = c.in_ok-tab.tab in
    let to = c.part_end-to.result in
    let e = c.in_ok-tab.ensures in
    let b : backoff_behind (drop to line) ≡ None = ap backoff_behind (sym (part_to_end line to)) ∙ sym c.in_err-b.ensures in
    ap (listed_at line) c.from_residual-in_err-b.ensures
    ∙ sym (row_read c.args.m line tab to e.0 e.1 c.part_end-to.ensures.place ∙ rw (b, no-backoff) refl)

pub returns-then-not-are_texts-clause-row : goal.returns-then-not-are_texts-clause-row
returns-then-not-are_texts-clause-row c =
    let line = c.args.line.now in
    let tab = c.in_ok-tab.tab in
    let to = c.part_end-to.result in
    let e = c.in_ok-tab.ensures in
    let b : backoff_behind (drop to line) ≡ Some c.in_ok-b.b = ap backoff_behind (sym (part_to_end line to)) ∙ sym c.in_ok-b.ensures in
    let t = sym c.are_texts.ensures ∙ c.if-not-are_texts.true in
    sym (row_read c.args.m line tab to e.0 e.1 c.part_end-to.ensures.place ∙ rw (b, sym c.in_ok-p.ensures, t) refl)

pub returns-clause-row : goal.returns-clause-row
returns-clause-row c =
    let line = c.args.line.now in
    let tab = c.in_ok-tab.tab in
    let to = c.part_end-to.result in
    let e = c.in_ok-tab.ensures in
    let b : backoff_behind (drop to line) ≡ Some c.in_ok-b.b = ap backoff_behind (sym (part_to_end line to)) ∙ sym c.in_ok-b.ensures in
    let t = sym c.are_texts.ensures ∙ c.if-not-are_texts.false in
    let p : to_z w32 (of_z w32 c.in_ok-p.p) ≡ c.in_ok-p.p = search rules in
    let q : to_z w32 (of_z w32 c.in_ok-b.b) ≡ c.in_ok-b.b = search rules in
    rw (p, q) (sym (row_read c.args.m line tab to e.0 e.1 c.part_end-to.ensures.place ∙ rw (b, sym c.in_ok-p.ensures, t) refl))
