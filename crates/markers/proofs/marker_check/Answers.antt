-- The difference fits by the range of p.
use mathlib.Core.Path.{ap, ◌∙◌}
use lib.IntN.{ℤ, pos, ◌-ℤ◌}
use mir.Facts.{to_z-of_z}
use Rattle.integer.proofs.Arithmetic.{zarith}
use Rattle.integer.proofs.Ranges.{between-low, between-high}
use Rattle.backoff.specs.Limits.{least_probability}
use Rattle.backoff.specs.Model.{in_probability}
use Rattle.markers.proofs.marker_check.Goals as goal

pub overflow_sub-result : goal.overflow_sub-result
unfolding in_probability
overflow_sub-result c =
    let l = between-low least_probability (pos 0) c.args.p c.requires in
    let h = between-high least_probability (pos 0) c.args.p c.requires in
    omega zarith

pub returns : goal.returns
returns c = to_z-of_z (overflow_sub-result c) ∙ ap (λ (z : ℤ). z -ℤ pos 1) (to_z-of_z c.ranges.p)
