-- The marker of the node in slot s.
use mathlib.Core.Path.{sym}
use native.Mathlib.Omega.{arith}
use Prim.Native.Nat.{◌≤◌, ◌<◌}
use lib.ListN.{get_or, length}
use lib.IntN.{pos, nat_abs}
use mir.Syntax.{w32}
use mir.Val.{SFits, to_z, of_z}
use mir.Facts.{to_z-of_z}
use borrow.Author.Rules.{rules}
use Rattle.child_slots.specs.Children.{free_check}
use Rattle.double_array.proofs.DoubleArray.{kept-low, kept-outside, kept-inside}
use Rattle.double_array.proofs.kept_marker.Goals as goal

pub returns-then-d-lt1 : goal.returns-then-d-lt1
returns-then-d-lt1 c =
    let a = c.args in
    let f : SFits w32 (get_or a.base.now a.s (pos 0)) = search rules in
    sym (kept-low a.base.now a.check.now a.s (rw (to_z-of_z f) at c.if-d-lt1.true))

pub returns-in_err-mark : goal.returns-in_err-mark
returns-in_err-mark c =
    let a = c.args in
    let f : SFits w32 (get_or a.base.now a.s (pos 0)) = search rules in
    let outside : length a.check.now ≤ nat_abs (to_z w32 (of_z w32 (get_or a.base.now a.s (pos 0)))) = omega (arith, c.in_err-mark.ensures.lookup) in
    rw c.from_residual.ensures (sym (kept-outside a.base.now a.check.now a.s (rw (to_z-of_z f) at c.if-d-lt1.false) (rw (to_z-of_z f) at outside)))

pub bounds-base-t : goal.bounds-base-t
bounds-base-t c =
    let z = c.requires.base_len in
    omega (arith, c.in_ok-mark.ensures.lookup)

pub returns : goal.returns
returns c =
    let a = c.args in
    let f : SFits w32 (get_or a.base.now a.s (pos 0)) = search rules in
    let inside : nat_abs (to_z w32 (of_z w32 (get_or a.base.now a.s (pos 0)))) < length a.check.now = omega (arith, c.in_ok-mark.ensures.lookup) in
    let same = to_z-of_z f in
    let g : SFits w32 c.in_ok-mark.field-0.now = search rules in
    let h : SFits w32 (get_or a.base.now (nat_abs (to_z w32 (of_z w32 (get_or a.base.now a.s (pos 0))))) (pos 0)) = search rules in
    rw (kept-inside a.base.now a.check.now a.s (rw same at c.if-d-lt1.false) (rw same at inside), c.marker_of.ensures, to_z-of_z g, to_z-of_z h, c.in_ok-mark.ensures.lookup.3.1 free_check, same)
