-- Each stage takes a line in its own way. Assumes nothing.
use Rattle.std.proofs.Common.{◌≡◌, refl, sym, ◌∙◌, length}
use borrow.Author.Tests.{eqb-true, eqb-false}
use Rattle.arpa_sections.specs.declared.Stage.TheVariants.{Start, Counts, Ended}
use Rattle.arpa_sections.proofs.Stages.{data_entered}
use Rattle.arpa_lines.proofs.LineSteps.{line_empty, line_at}
use Rattle.arpa_lines.proofs.line_step.Goals as goal

pub returns-then-is_empty : goal.returns-then-is_empty
returns-then-is_empty c a h =
    rw (line_empty (length c.args.table.now) (length c.args.store.now) a c.args.line.now (eqb-true _ 0 (sym c.is_empty.ensures ∙ c.if-is_empty.true))) h

pub returns-then-is_data_line : goal.returns-then-is_data_line
returns-then-is_data_line c a h =
    let t = c.args.table.now in
    let s = c.args.store.now in
    let st : c.args.progress.stage ≡ Start = c.in-Start.is in
    rw (line_at (length t) (length s) a c.args.line.now Start (eqb-false _ 0 (sym c.is_empty.ensures ∙ c.if-is_empty.false)) (sym h.stage ∙ st), sym c.is_data_line.ensures ∙ c.if-is_data_line.true)
    (data_entered (length t) (length s) t s c.args.progress a h st c.enter.result c.enter.ensures)

pub returns-else-is_data_line : goal.returns-else-is_data_line
returns-else-is_data_line c a h =
    let st : c.args.progress.stage ≡ Start = c.in-Start.is in
    rw (line_at (length c.args.table.now) (length c.args.store.now) a c.args.line.now Start (eqb-false _ 0 (sym c.is_empty.ensures ∙ c.if-is_empty.false)) (sym h.stage ∙ st), sym c.is_data_line.ensures ∙ c.if-is_data_line.false)
    (refl, refl, refl)

pub returns-in-Counts : goal.returns-in-Counts
returns-in-Counts c a h =
    let t = c.args.table.now in
    let s = c.args.store.now in
    let st : c.args.progress.stage ≡ Counts = c.in-Counts.is in
    rw (line_at (length t) (length s) a c.args.line.now Counts (eqb-false _ 0 (sym c.is_empty.ensures ∙ c.if-is_empty.false)) (sym h.stage ∙ st)) (c.data_step.ensures a (length s) t s st h)

pub returns-in-Section : goal.returns-in-Section
returns-in-Section c a h =
    let st = c.in-Section.is in
    rw (line_at (length c.args.table.now) (length c.args.store.now) a c.args.line.now _ (eqb-false _ 0 (sym c.is_empty.ensures ∙ c.if-is_empty.false)) (sym h.stage ∙ st)) (c.section_step.ensures a h)

pub returns-in-Ended : goal.returns-in-Ended
returns-in-Ended c a h =
    let st : c.args.progress.stage ≡ Ended = c.in-Ended.is in
    rw (line_at (length c.args.table.now) (length c.args.store.now) a c.args.line.now Ended (eqb-false _ 0 (sym c.is_empty.ensures ∙ c.if-is_empty.false)) (sym h.stage ∙ st)) (refl, refl, refl)
