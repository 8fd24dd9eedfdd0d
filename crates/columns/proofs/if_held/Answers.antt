-- `columns::if_held`: what the conversion takes is what 32 bits hold.
use Rattle.std.proofs.Common.{◌≡◌, ℤ, Result, Ok, Err, Some, None, Bool, cond, true, false, refl, ◌∙◌, w32}
use Rattle.std.specs.Result.{OkIff, result_ok}
use Rattle.std.specs.Int.Signed.{le_z}
use mir.Val.{SFits}
use mir.Facts.{to_z-of_z}
use Rattle.integer.specs.Integer.{between}
use Rattle.integer.proofs.Arithmetic.{zarith, fit}
use Rattle.integer.proofs.Ranges.{between-low, between-high}
use Rattle.columns.specs.Columns.{least_number, greatest_number, if_held}
use Rattle.columns.proofs.if_held.Goals as goal

held : {E : Type 0} (z : ℤ) (r : Result ℤ E) → OkIff r (SFits w32 z) z → result_ok r ≡ if_held z
unfolding if_held between
held z (Ok y) h =
    let l : le_z least_number z ≡ true = omega (zarith, fit h.0) in
    let g : le_z z greatest_number ≡ true = omega (zarith, fit h.0) in
    rw (l, g, h.1) refl
held z (Err e) h = go (between least_number greatest_number z) refl
  where
    go : (t : Bool) → between least_number greatest_number z ≡ t → None ≡ cond (between least_number greatest_number z) (Some z) None
    go true f =
        let l = between-low least_number greatest_number z f in
        let g = between-high least_number greatest_number z f in
        let s : SFits w32 z = omega zarith in
        absurd (h s)
    go false f = rw f refl

pub returns : goal.returns
returns c =
    let e : OkIff c.try_from.result (SFits w32 c.args.z) c.args.z = rw (to_z-of_z c.ranges.z) at c.try_from.ensures in
    c.ok.ensures.value ∙ held c.args.z c.try_from.result e
