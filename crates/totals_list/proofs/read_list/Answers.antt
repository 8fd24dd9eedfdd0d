-- `totals_list::read_list`, line by line.
use Rattle.std.proofs.Common.{sym, ◌∙◌}
use Rattle.totals_list.proofs.Listing.{reading-start, reading_unended, reading-last, reading_bad, reading-next, reading-end}
use Rattle.totals_list.proofs.read_list.Goals as goal

pub loop-at-init : goal.loop-at-init
loop-at-init c = reading-start c.args.text.now c.args.table.now c.requires

pub returns-then-end-text : goal.returns-then-end-text
returns-then-end-text c =
    let l = c.loop-at in
    reading_unended _ _ l.at l.i _ l.invariant c.loop-at-test.true c.part_end-end.ensures.place c.if-end-text.true

pub returns-then-i-eq-LIST_LINES : goal.returns-then-i-eq-LIST_LINES
returns-then-i-eq-LIST_LINES c =
    let l = c.loop-at in
    reading-last _ _ l.at l.i _ l.invariant c.loop-at-test.true c.part_end-end.ensures.place c.if-end-text.false c.if-i-eq-LIST_LINES.true

pub returns-then-not-read_row : goal.returns-then-not-read_row
returns-then-not-read_row c =
    let l = c.loop-at in
    reading_bad _ _ l.at l.i _ l.invariant c.loop-at-test.true c.part_end-end.ensures.place c.if-end-text.false (sym c.read_row.ensures.answer ∙ c.if-not-read_row.true)

pub loop-at-preserved : goal.loop-at-preserved
loop-at-preserved c =
    let l = c.loop-at in
    reading-next _ _ l.at l.i _ l.invariant c.loop-at-test.true c.part_end-end.ensures.place c.if-end-text.false c.if-i-eq-LIST_LINES.false
    (sym c.read_row.ensures.answer ∙ c.if-not-read_row.false) c.read_row.ensures.row

pub returns : goal.returns
returns c =
    let l = c.loop-at in
    (l.invariant.few, reading-end _ _ l.at l.i l.invariant c.loop-at-test.false)
