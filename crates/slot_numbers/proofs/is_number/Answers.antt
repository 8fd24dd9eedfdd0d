-- The item before the number is at most the slot, and the one at it is above it.
use Rattle.std.proofs.Common.{arith, sym, ◌∙◌}
use borrow.Author.Tests.{leb-true, leb-false}
use Rattle.slot_numbers.proofs.Numbering.{number_at}
use Rattle.slot_numbers.proofs.is_number.Goals as goal
use Rattle.slot_numbers.proofs.is_number.Goals.{then-number-work, else-number-work}

pub returns-then-number-eq0 : goal.returns-then-number-eq0
returns-then-number-eq0 c = λ z.
    number_at _ _ _ c.requires (omega arith) (λ h. absurd (omega arith))
    (λ h. elim c.if-number-work.branch [ then-number-work w ↦ leb-false _ _ (sym w.value-is ∙ c.if-work-number-2.false) | else-number-work w ↦ absurd (omega (arith, w.if-number-work.false)) ])

pub returns-else-number-eq0 : goal.returns-else-number-eq0
returns-else-number-eq0 c = λ z.
    number_at _ _ _ c.requires (omega arith) (λ h. leb-true _ _ z)
    (λ h. elim c.if-number-work.branch [ then-number-work w ↦ leb-false _ _ (sym w.value-is ∙ c.if-work-number-2.false) | else-number-work w ↦ absurd (omega (arith, w.if-number-work.false)) ])
