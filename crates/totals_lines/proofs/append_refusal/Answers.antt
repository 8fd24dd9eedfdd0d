-- `totals_lines::append_refusal`: what was copied is the refusal's line.
use Rattle.std.proofs.Common.{◌≡◌, ℕ, length, take, ap, ◌∙◌, arith, length-take}
use Rattle.backoff.specs.Refusal.{text_line}
use Rattle.totals_text.specs.Lines.{refused_line}
use Rattle.totals_lines.proofs.Printing.{front_of, appended}
use Rattle.totals_lines.proofs.append_refusal.Goals as goal

pub returns-clause-text : goal.returns-clause-text
returns-clause-text c =
    let a = c.args in
    let r = c.refused_line-length in
    let is : take r.result r.new.out ≡ refused_line text_line a.number =
    front_of r.result _ _ _ r.ensures.length r.ensures.text ∙ ap (λ (n : ℕ). refused_line n a.number) c.from.ensures in
    let long = ap length is in
    appended a.out.now a.at _ (refused_line text_line a.number) c.append.result c.append.new.out is (omega (arith, c.append.ensures.place)) c.append.ensures.text
    (omega (arith, c.append.ensures.place, r.ensures.room, length-take {A = ℕ}))
