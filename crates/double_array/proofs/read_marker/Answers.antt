-- Which of the two markers the node in slot s has.
use mathlib.Core.Path.{sym, ap, ◌∙◌}
use lib.ListN.{get_or}
use lib.IntN.{ℤ, pos}
use mir.Syntax.{w32}
use mir.Val.{SFits}
use mir.Facts.{to_z-of_z}
use borrow.Author.Rules.{rules}
use Rattle.markers.specs.Markers.{marker_of}
use Rattle.double_array.specs.DoubleArray.{own_marker}
use Rattle.double_array.proofs.DoubleArray.{marker_own, marker_kept}
use Rattle.double_array.proofs.read_marker.Goals as goal

pub returns-then-depth-order : goal.returns-then-depth-order
unfolding own_marker
returns-then-depth-order c =
    let a = c.args in
    let f : SFits w32 (get_or a.base.now a.s (pos 0)) = search rules in
    c.marker_of.ensures
    ∙ ap (λ (z : ℤ). marker_of z (pos 0)) (to_z-of_z f)
    ∙ sym (marker_own a.base.now a.check.now a.depth a.s (c.if-depth-order.true ∙ c.requires.order_value))

pub returns : goal.returns
returns c =
    let a = c.args in
    c.kept_marker.ensures
    ∙ sym (marker_kept a.base.now a.check.now a.depth a.s (λ e. c.if-depth-order.false (e ∙ sym c.requires.order_value)))
