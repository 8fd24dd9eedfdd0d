-- `totals_lines::finish`: a refusal where a line has begun.
use Rattle.std.proofs.Common.{ℕ, refl, ap, ◌∙◌}
use borrow.Author.Tests.{eq-eqb, ne_eqb}
use Rattle.totals_text.specs.Lines.{refused_line}
use Rattle.totals_lines.specs.Steps.{finished}
use Rattle.totals_lines.proofs.Printing.{front_of}
use Rattle.totals_lines.proofs.finish.Goals as goal

pub returns-then-progress-eq0-clause-text : goal.returns-then-progress-eq0-clause-text
unfolding finished
returns-then-progress-eq0-clause-text c = rw (eq-eqb c.args.progress.count 0 c.if-progress-eq0.true) refl

pub returns-clause-text : goal.returns-clause-text
unfolding finished
returns-clause-text c =
    let p = c.args.progress in
    let r = c.refused_line.ensures in
    front_of c.refused_line.result _ _ _ r.length r.text ∙ ap (λ (n : ℕ). refused_line n p.number) c.from.ensures ∙ rw (ne_eqb p.count 0 c.if-progress-eq0.false) refl
