-- A line closes the section, or is a row of it. Assumes nothing.
use Rattle.std.proofs.Common.{length, arith}
use Rattle.arpa_sections.specs.declared.Stage.TheVariants.{Section}
use Rattle.arpa_sections.proofs.Stages.{held_at}
use Rattle.arpa_lines.proofs.LineSteps.{section_step_lem}
use Rattle.arpa_lines.proofs.section_step.Goals as goal

pub closes_section-requires : goal.closes_section-requires
closes_section-requires c = c.requires.0.1.order

pub close_section-requires : goal.close_section-requires
close_section-requires c =
    let h = c.requires.0.1 in
    let i = held_at (length c.args.table.now) (length c.args.store.now) c.args.table.now c.args.store.now c.args.progress c.requires.0.0 h (Section c.args.m) c.requires.1 in
    let o = h.order in
    let l = i.1 in
    (i.0, omega arith)

pub returns-then-closes_section : goal.returns-then-closes_section
returns-then-closes_section c a h =
    let t = c.args.table.now in
    let s = c.args.store.now in
    let e = section_step_lem (length t) (length s) t s c.args.progress a h c.args.m c.args.line.now c.closes_section.result c.closes_section.ensures in
    rw (e, c.if-closes_section.true) (c.close_section.ensures a (length t) (length s) t s c.requires.1 h)

pub row_step-requires : goal.row_step-requires
row_step-requires c =
    let h = c.requires.0.1 in
    let i = held_at (length c.args.table.now) (length c.args.store.now) c.args.table.now c.args.store.now c.args.progress c.requires.0.0 h (Section c.args.m) c.requires.1 in
    let o = h.order in
    let l = i.1 in
    (c.requires.0, c.requires.1, i.0, omega arith)

pub returns : goal.returns
returns c a h =
    let t = c.args.table.now in
    let s = c.args.store.now in
    let e = section_step_lem (length t) (length s) t s c.args.progress a h c.args.m c.args.line.now c.closes_section.result c.closes_section.ensures in
    rw (e, c.if-closes_section.false) (c.row_step.ensures a h)
