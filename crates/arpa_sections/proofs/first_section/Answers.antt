-- The heading of the one-word section stands behind a count. Assumes nothing.
use Rattle.std.proofs.Common.{refl, sym, ◌∙◌}
use Rattle.arpa_sections.proofs.Stages.{first_unannounced, first-other, first-entered}
use Rattle.arpa_sections.proofs.first_section.Goals as goal

pub returns-then-progress-eq0 : goal.returns-then-progress-eq0
returns-then-progress-eq0 c a size t s st h =
    rw (first_unannounced c.args.room size t s c.args.progress a h c.args.line.now c.if-progress-eq0.true) (refl, h.table-long, h.store_long)

pub returns-then-not-is_section_line : goal.returns-then-not-is_section_line
returns-then-not-is_section_line c a size t s st h =
    rw (first-other c.args.room size t s c.args.progress a h c.args.line.now (sym c.is_section_line.ensures ∙ c.if-not-is_section_line.true)) (refl, h.table-long, h.store_long)

pub returns : goal.returns
returns c a size t s st h =
    first-entered c.args.room size t s c.args.progress a h c.args.line.now st c.if-progress-eq0.false (sym c.is_section_line.ensures ∙ c.if-not-is_section_line.false)
    c.enter.result (c.enter.ensures ∙ rw c.buckets_for.ensures refl)
