-- A back-off of 0 is in range.
use Rattle.std.proofs.Common.{◌≡◌, ℤ, pos, eqb, of_z, w32, ap, sym, ◌∙◌, arith}
use Rattle.std.proofs.lemmas.Int.{ints}
use Rattle.std.proofs.lemmas.Grind.{common_steps}
use Rattle.integer.specs.Integer.{between, eq_z}
use Rattle.backoff.specs.Model.{in_backoff}
use Rattle.row_fields.proofs.Fields.{backoff-longest, backoff_shorter}
use Rattle.row_fields.proofs.backoff_fits.Goals as goal

pub returns-then-m-n : goal.returns-then-m-n
returns-then-m-n c =
    let e : eqb (of_z w32 c.field-b.result) 0 ≡ eq_z c.field-b.result (pos 0) = grind (arith, ints, common_steps) in
    e ∙ ap (λ (z : ℤ). eq_z z (pos 0)) c.field-b.ensures ∙ sym (backoff-longest _ _ _ cc)

pub returns : goal.returns
unfolding between in_backoff
returns c =
    let e : c.contains.result ≡ in_backoff c.field-b.result = grind (arith, ints, common_steps) in
    e ∙ ap in_backoff c.field-b.ensures ∙ sym (backoff_shorter _ _ _ (λ h. c.if-m-n.false cc))
