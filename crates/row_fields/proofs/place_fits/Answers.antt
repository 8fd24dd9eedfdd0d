-- A used place holds a word, an unused one 0.
use Rattle.std.proofs.Common.{◌≡◌, ℤ, pos, eqb, of_z, w32, ap, sym, ◌∙◌, arith}
use Rattle.std.proofs.lemmas.Int.{ints}
use Rattle.std.proofs.lemmas.Grind.{common_steps}
use Rattle.integer.specs.Integer.{between, eq_z}
use Rattle.backoff.specs.Limits.{word_limit}
use Rattle.rows.proofs.Table.{place_used, place_unused}
use Rattle.row_fields.proofs.place_fits.Goals as goal

pub returns-then-j-m : goal.returns-then-j-m
unfolding between
returns-then-j-m c =
    let e : c.contains.result ≡ between (pos 1) (pos word_limit) c.field-word.result = grind (arith, ints, common_steps) in
    e ∙ ap (between (pos 1) (pos word_limit)) c.field-word.ensures ∙ sym (place_used _ _ _ (omega arith))

pub returns : goal.returns
returns c =
    let e : eqb (of_z w32 c.field-word.result) 0 ≡ eq_z c.field-word.result (pos 0) = grind (arith, ints, common_steps) in
    e ∙ ap (λ (z : ℤ). eq_z z (pos 0)) c.field-word.ensures ∙ sym (place_unused _ _ _ (omega arith))
