-- The number is no negative one, so the cast keeps it. Assumes nothing.
use borrow.Author.Rules.{sfits_of}
use Rattle.std.proofs.Common.{◌≡◌, sym, ap, ◌∙◌, ℤ, pos, true}
use lib.IntN.{nat_abs}
use mir.Facts.{to_z-of_z}
use mir.Syntax.{w32}
use mir.Val.{SFits}
use Rattle.integer.proofs.Arithmetic.{zarith, abs}
use Rattle.integer.proofs.Ranges.{between_cast, between-low}
use Rattle.integer.specs.Integer.{between}
use Rattle.word_index.specs.Index.{link_limit}
use Rattle.word_index.proofs.link_at.Goals as goal

fits : (c : goal.After-field) → SFits w32 c.field.result
fits c = sfits_of c.field.type_inv

in_range : (c : goal.After-field) → between (pos 0) (pos link_limit) c.field.result ≡ true
in_range c = rw c.field.ensures c.requires.2

pub overflow_cast-result : goal.overflow_cast-result
overflow_cast-result c = between_cast (pos link_limit) (fits c) (in_range c)

pub returns : goal.returns
returns c =
    let low = between-low (pos 0) (pos link_limit) c.field.result (in_range c) in
    let e : c.field.result ≡ pos (nat_abs c.field.result) = omega (zarith, abs c.field.result) in
    sym c.field.ensures ∙ e ∙ ap (λ (z : ℤ). pos (nat_abs z)) (sym (to_z-of_z (fits c)))
