-- A line of one word and a longer line are read in their own ways. Assumes nothing.
use Rattle.std.proofs.Common.{refl, ap, ◌∙◌, length, arith}
use borrow.Author.Rules.{rules}
use mir.Facts.{to_z-of_z}
use mir.Syntax.{w32}
use mir.Val.{SFits}
use Rattle.arpa_sections.specs.declared.Stage.TheVariants.{Section}
use Rattle.arpa_lines.proofs.Fields.{row-not-in_form, part_texts, part_text, row-longer, row_word}
use Rattle.arpa_lines.proofs.row_step.Goals as goal

pub returns-in_default : goal.returns-in_default
returns-in_default c a h =
    rw (row-not-in_form c.args.m c.args.line.now c.read_row.result c.read_row.ensures.row (length c.args.table.now) (length c.args.store.now) a c.in_default.is) (refl, refl, refl)

pub word_step-requires : goal.word_step-requires
word_step-requires c =
    (c.requires.0, c.requires.1 ∙ ap Section c.if-m-eq1.true, part_text c.args.m c.args.line.now c.read_row.result c.read_row.ensures.row c.in-Some.field-0 c.in-Some.is c.if-m-eq1.true)

pub longer_step-requires : goal.longer_step-requires
longer_step-requires c =
    let n = c.if-m-eq1.false in
    let low = c.requires.2 in
    (c.requires.0, c.requires.1, omega arith, c.requires.3, part_texts c.args.m c.args.line.now c.read_row.result c.read_row.ensures.row c.in-Some.field-0 c.in-Some.is)

pub returns-then-m-eq1 : goal.returns-then-m-eq1
returns-then-m-eq1 c a h =
    let p : SFits w32 c.in-Some.field-0.p = search rules in
    let b : SFits w32 c.in-Some.field-0.b = search rules in
    rw (row_word c.args.m c.args.line.now c.read_row.result c.read_row.ensures.row c.in-Some.field-0 c.in-Some.is c.if-m-eq1.true (length c.args.table.now) (length c.args.store.now) a)
    (rw (to_z-of_z p, to_z-of_z b) at (c.word_step.ensures a h))

pub returns-else-m-eq1 : goal.returns-else-m-eq1
returns-else-m-eq1 c a h =
    let p : SFits w32 c.in-Some.field-0.p = search rules in
    let b : SFits w32 c.in-Some.field-0.b = search rules in
    rw (row-longer c.args.m c.args.line.now c.read_row.result c.read_row.ensures.row c.in-Some.field-0 c.in-Some.is (length c.args.table.now) (length c.args.store.now) a c.if-m-eq1.false)
    (rw (to_z-of_z p, to_z-of_z b) at (c.longer_step.ensures a h))
