-- The code's tests are the range tests of p and of b, a quarter of BASE.
use mathlib.Core.Path.{◌≡◌, refl, sym, ◌∙◌}
use mathlib.Core.Bool.{Bool, true, false, ◌&&◌}
use Prim.Native.Nat.{◌+◌, ◌*◌}
use lib.Dec.{eqb}
use lib.Bits.{bit_and}
use lib.IntN.{ℤ, pos, neg_ℤ, ◌+ℤ◌, ◌-ℤ◌}
use lib.Signed.{le_z, lt_z}
use mir.Syntax.{w32}
use mir.Val.{SFits, to_z, of_z}
use mir.Facts.{to_z-of_z}
use Rattle.integer.specs.Integer.{between, half, odd}
use Rattle.integer.proofs.Arithmetic.{zarith, add, shr, fit, shr_fits}
use Rattle.integer.proofs.Ranges.{and_left, between-high}
use Rattle.integer.proofs.Halving.{lowest_bit}
use Rattle.backoff.specs.Limits.{least_probability, largest_backoff}
use Rattle.backoff.specs.Model.{in_probability, in_backoff}
use Rattle.markers.specs.Markers.{Sound}
use Rattle.markers.proofs.Markers.{marker_sound, marker_broken}
use Rattle.markers.proofs.Tests.{between_told, below_told}
use Rattle.markers.proofs.marker_of.Goals as goal

-- one more is in p's range where the number is in the range one lower
next_in : (z : ℤ) → in_probability (z +ℤ pos 1) ≡ (le_z (least_probability -ℤ pos 1) z && lt_z z (pos 0))
unfolding in_probability between
next_in z = rw (low (le_z (least_probability -ℤ pos 1) z) refl, high (lt_z z (pos 0)) refl)
  where
    low : (t : Bool) → le_z (least_probability -ℤ pos 1) z ≡ t → le_z least_probability (z +ℤ pos 1) ≡ t
    low true e = omega (zarith, add z (pos 1))
    low false e = omega (zarith, add z (pos 1))

    high : (t : Bool) → lt_z z (pos 0) ≡ t → le_z (z +ℤ pos 1) (pos 0) ≡ t
    high true e = omega (zarith, add z (pos 1))
    high false e = omega (zarith, add z (pos 1))

-- a quarter is in b's range where the number is in four times the range
quarter_in : (z : ℤ) → in_backoff (half (half z)) ≡ between (neg_ℤ (pos (4 * largest_backoff))) (pos (4 * largest_backoff + 3)) z
unfolding in_backoff between
quarter_in z = rw (low (le_z (neg_ℤ (pos (4 * largest_backoff))) z) refl, high (le_z z (pos (4 * largest_backoff + 3))) refl)
  where
    low : (t : Bool) → le_z (neg_ℤ (pos (4 * largest_backoff))) z ≡ t → le_z (neg_ℤ (pos largest_backoff)) (half (half z)) ≡ t
    low true e = omega (zarith, shr 2 z tt, shr 2 (half z) tt)
    low false e = omega (zarith, shr 2 z tt, shr 2 (half z) tt)

    high : (t : Bool) → le_z z (pos (4 * largest_backoff + 3)) ≡ t → le_z (half (half z)) (pos largest_backoff) ≡ t
    high true e = omega (zarith, shr 2 z tt, shr 2 (half z) tt)
    high false e = omega (zarith, shr 2 z tt, shr 2 (half z) tt)

-- the code's two tests, of the numbers that its locals hold
tests : (check base x y : ℤ) (t u : Bool) → x ≡ check → y ≡ base → t ≡ (le_z (least_probability -ℤ pos 1) x && lt_z x (pos 0)) → u ≡ between (neg_ℤ (pos (4 * largest_backoff))) (pos (4 * largest_backoff + 3)) y → (in_probability (check +ℤ pos 1) && in_backoff (half (half base))) ≡ (t && u)
tests check base x y t u f g h k = rw (next_in check, quarter_in base, ← f, ← g, ← h, ← k)

outside : (c : goal.Then-not-inside) → (in_probability (c.args.check +ℤ pos 1) && in_backoff (half (half c.args.base))) ≡ false
outside c =
    let two = between_told c.new.result _ _ (to_z w32 (of_z w32 c.args.base)) c.new.ensures.start c.new.ensures.end c.new.ensures.exhausted in
    tests c.args.check c.args.base _ _ _ _ (to_z-of_z c.ranges.check) (to_z-of_z c.ranges.base) (c.contains.ensures.value ∙ below_told (least_probability -ℤ pos 1) (pos 0) (to_z w32 (of_z w32 c.args.check))) (c.contains-2.ensures.value ∙ two)
    ∙ c.if-not-inside.true

inside : (c : goal.Else-not-inside) → (in_probability (c.args.check +ℤ pos 1) && in_backoff (half (half c.args.base))) ≡ true
inside c =
    let two = between_told c.new.result _ _ (to_z w32 (of_z w32 c.args.base)) c.new.ensures.start c.new.ensures.end c.new.ensures.exhausted in
    tests c.args.check c.args.base _ _ _ _ (to_z-of_z c.ranges.check) (to_z-of_z c.ranges.base) (c.contains.ensures.value ∙ below_told (least_probability -ℤ pos 1) (pos 0) (to_z w32 (of_z w32 c.args.check))) (c.contains-2.ensures.value ∙ two)
    ∙ c.if-not-inside.false

same_marker : {p q b d : ℤ} {e x f g : Bool} → p ≡ q → b ≡ d → e ≡ x → f ≡ g → Sound p b e f ≡ Sound q d x g
same_marker h k l m = cc

-- p is at most 0
p_fits : (z : ℤ) → SFits w32 z → in_probability (z +ℤ pos 1) ≡ true → SFits w32 (z +ℤ pos 1)
unfolding in_probability
p_fits z h k = let high = between-high least_probability (pos 0) (z +ℤ pos 1) k in omega (zarith, fit h, add z (pos 1))

-- the numbers in the code's locals
module _ {check base : ℤ} (fit-check : SFits w32 check) (fit-base : SFits w32 base) where
  p-is : SFits w32 (check +ℤ pos 1) → to_z w32 (of_z w32 (to_z w32 (of_z w32 check) +ℤ pos 1)) ≡ check +ℤ pos 1
  p-is h = rw (to_z-of_z fit-check, to_z-of_z h)

  b-is : to_z w32 (of_z w32 (half (to_z w32 (of_z w32 (half (to_z w32 (of_z w32 base))))))) ≡ half (half base)
  b-is = rw (to_z-of_z fit-base, to_z-of_z (shr_fits 2 fit-base), to_z-of_z (shr_fits 2 (shr_fits 2 fit-base)))

  e-is : eqb (bit_and (of_z w32 (half (to_z w32 (of_z w32 base)))) 1) 1 ≡ odd (half base)
  e-is = rw (to_z-of_z fit-base) (lowest_bit (shr_fits 2 fit-base))

pub returns-then-not-inside : goal.returns-then-not-inside
returns-then-not-inside c = sym (marker_broken c.args.check c.args.base (outside c))

pub returns : goal.returns
returns c =
    let check = c.ranges.check in
    let base = c.ranges.base in
    let yes = inside c in
    let next = p_fits c.args.check check (and_left _ _ yes) in
    same_marker (p-is check base next) (b-is check base) (e-is check base) (lowest_bit base) ∙ sym (marker_sound c.args.check c.args.base yes)
