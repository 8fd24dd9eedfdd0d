-- Laws of specs/Markers.antt: markers packed and read. Assumes nothing.
use mathlib.Core.Path.{◌≡◌, refl, ap, ◌∙◌}
use mathlib.Core.Bool.{Bool, true, false, cond, ◌&&◌, false≢true}
use lib.IntN.{ℤ, pos, ◌+ℤ◌, ◌*ℤ◌}
use Rattle.integer.specs.Integer.{bit, twice, half, odd}
use Rattle.integer.proofs.Arithmetic.{zarith, add, sub, mul}
use Rattle.integer.proofs.Ranges.{and_both}
use Rattle.integer.proofs.Halving.{half_twice, odd-twice, half-odd, bit_bounds}
use Rattle.backoff.specs.Model.{in_probability, in_backoff}
use Rattle.markers.specs.Markers.{marker_check, marker_base, marker_of}
use Rattle.markers.specs.Markers.{Marker}
use Rattle.markers.specs.Markers.{Sound, Broken}

module _ (check base : ℤ) where
  pub marker_sound : (in_probability (check +ℤ pos 1) && in_backoff (half (half base))) ≡ true → marker_of check base ≡ Sound (check +ℤ pos 1) (half (half base)) (odd (half base)) (odd base)
  unfolding marker_of
  marker_sound e = rw e

  pub marker_broken : (in_probability (check +ℤ pos 1) && in_backoff (half (half base))) ≡ false → marker_of check base ≡ Broken
  unfolding marker_of
  marker_broken e = rw e

twice_half : (z : ℤ) → twice (half z) (odd z) ≡ z
twice_half z = omega (zarith, half-odd z, add (pos 2 *ℤ half z) (bit (odd z)), mul 2 (half z), bit_bounds (odd z))

-- a sound marker behind two tests
pub guarded : (t u : Bool) (m : Marker) (p b : ℤ) (e f : Bool) → cond (t && u) m Broken ≡ Sound p b e f → (t ≡ true) × (u ≡ true) × (m ≡ Sound p b e f)
guarded true true m p b e f h = (refl, refl, h)
guarded true false m p b e f h = absurd (false≢true (cc))
guarded false u m p b e f h = absurd (false≢true (cc))

-- what is read was packed, and is in range
pub sound-read : (check base p b : ℤ) (e f : Bool) → marker_of check base ≡ Sound p b e f → (check ≡ marker_check p) × (base ≡ marker_base b e f) × (in_probability p ≡ true) × (in_backoff b ≡ true)
unfolding marker_of
sound-read check base p b e f h =
    let upper = half base in
    let tests = guarded (in_probability (check +ℤ pos 1)) (in_backoff (half upper)) (Sound (check +ℤ pos 1) (half upper) (odd upper) (odd base)) p b e f h in
    let q : check +ℤ pos 1 ≡ p = cc in
    let r : half upper ≡ b = cc in
    (omega (zarith, add check (pos 1), sub p (pos 1)), cc (twice_half base, twice_half upper), rw q at tests.0, rw r at tests.1)

-- what was packed is read
pub marker_round_trip : (p b : ℤ) (e f : Bool) → in_probability p ≡ true → in_backoff b ≡ true → marker_of (marker_check p) (marker_base b e f) ≡ Sound p b e f
marker_round_trip p b e f hp hb =
    let q : marker_check p +ℤ pos 1 ≡ p = omega (zarith, sub p (pos 1), add (marker_check p) (pos 1)) in
    let upper : half (marker_base b e f) ≡ twice b e = half_twice (twice b e) f in
    marker_sound (marker_check p) (marker_base b e f) (and_both _ _ (ap in_probability q ∙ hp) (ap in_backoff (ap half upper ∙ half_twice b e) ∙ hb))
    ∙ rw (q, upper, half_twice b e, odd-twice b e, odd-twice (twice b e) f)
