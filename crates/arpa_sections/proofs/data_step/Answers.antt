-- The line announces a count, or it is the heading of the one-word section. Assumes nothing.
use Rattle.std.proofs.Common.{◌≡◌, sym, subst, ◌∙◌}
use Rattle.arpa_sections.specs.Sections.{Step, first_section, data_step}
use Rattle.arpa_sections.specs.Held.{StepHeld}
use Rattle.arpa_sections.proofs.Counts.{data_not_count, data_all_announced, data_announced}
use Rattle.arpa_sections.proofs.data_step.Goals as goal
use Rattle.arpa_sections.proofs.data_step.Goals.{then-progress-lt5+in_default, else-progress-lt5}

pub returns-in-Some : goal.returns-in-Some
returns-in-Some c a size t s e h =
    data_announced c.args.room size t s c.args.progress a h c.args.line.now c.in-Some.count e c.if-progress-lt5.true
    (sym c.read_count.ensures ∙ c.in-Some.is) c.announce.result c.announce.ensures

pub returns : goal.returns
returns c a size t s e h =
    let none : data_step a c.args.line.now ≡ first_section a c.args.line.now =
    elim c.if-progress-lt5.branch [
      | then-progress-lt5+in_default w ↦ data_not_count c.args.room size t s c.args.progress a h c.args.line.now w.if-progress-lt5.true (sym w.read_count.ensures ∙ w.in_default.is)
      | else-progress-lt5 w ↦ data_all_announced c.args.room size t s c.args.progress a h c.args.line.now w.if-progress-lt5.false
    ] in
    subst (λ (x : Step). StepHeld c.args.room size t s x c.first_section.result) (sym none) (c.first_section.ensures a size t s e h)
