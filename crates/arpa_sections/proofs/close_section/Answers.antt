-- A section has as many lines as were announced, or it is refused. Assumes nothing.
use Rattle.std.proofs.Common.{refl, ap, ◌∙◌}
use Rattle.arpa_sections.specs.Held.{entered}
use Rattle.arpa_sections.proofs.Stages.{close_refused, close_next, close_last}
use Rattle.arpa_sections.proofs.close_section.Goals as goal
use Rattle.arpa_sections.proofs.close_section.Goals.{then-m-progress, else-m-progress}

pub returns-then-progress-announced : goal.returns-then-progress-announced
returns-then-progress-announced c a room size t s st h =
    rw (close_refused room size t s c.args.progress a h c.args.m c.requires.0 st c.if-progress-announced.true) (refl, h.table-long, h.store_long)

pub returns : goal.returns
returns c a room size t s st h =
    elim c.if-m-progress.branch [
      | then-m-progress w ↦
          close_next room size t s c.args.progress a h c.args.m c.requires.0 st c.if-progress-announced.false w.if-m-progress.true c.enter.result (c.enter.ensures ∙ ap (entered c.args.progress) w.next-is)
      | else-m-progress w ↦
          close_last room size t s c.args.progress a h c.args.m c.requires.0 st c.if-progress-announced.false w.if-m-progress.false c.enter.result (c.enter.ensures ∙ ap (entered c.args.progress) w.next-is)
    ]
