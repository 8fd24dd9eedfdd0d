-- The products and sums fit by the range of b.
use mathlib.Core.Path.{◌≡◌, refl, ◌∙◌}
use mathlib.Core.Bool.{Bool, true, false}
use lib.IntN.{ℤ, pos, neg_ℤ, ◌+ℤ◌, ◌*ℤ◌}
use lib.Signed.{◌≤ℤ◌}
use mir.Facts.{to_z-of_z}
use mir.Syntax.{w32}
use mir.Val.{SFits, bool_byte}
use Rattle.integer.specs.Integer.{bit, twice}
use Rattle.integer.proofs.Arithmetic.{zarith, add, mul}
use Rattle.integer.proofs.Halving.{bit_bounds}
use Rattle.integer.proofs.Ranges.{between-low, between-high}
use Rattle.backoff.specs.Limits.{largest_backoff}
use Rattle.backoff.specs.Model.{in_backoff}
use Rattle.markers.specs.Markers.{marker_base}
use Rattle.markers.proofs.marker_base.Goals as goal

byte_is : (f : Bool) → pos (bool_byte f) ≡ bit f
byte_is true = refl
byte_is false = refl

bit_fits : (f : Bool) → SFits w32 (bit f)
bit_fits f = omega (zarith, bit_bounds f)

module _ (b : ℤ) (e f : Bool) where
  -- the three numbers that are added
  abbrev four : ℤ
  four = pos 4 *ℤ b

  abbrev two : ℤ
  two = pos 2 *ℤ bit e

  packed : four +ℤ two +ℤ bit f ≡ marker_base b e f
  packed =
      omega
      (zarith, mul 4 b, mul 2 (bit e), add four two, add (four +ℤ two) (bit f), mul 2 b, add (pos 2 *ℤ b) (bit e), mul 2 (twice b e), add (pos 2 *ℤ twice b e) (bit f))

  two_fits : SFits w32 two
  two_fits = omega (zarith, bit_bounds e)

  module _ (h : in_backoff b ≡ true) where
    low : neg_ℤ (pos largest_backoff) ≤ℤ b
    unfolding in_backoff
    low = between-low (neg_ℤ (pos largest_backoff)) (pos largest_backoff) b h

    high : b ≤ℤ pos largest_backoff
    unfolding in_backoff
    high = between-high (neg_ℤ (pos largest_backoff)) (pos largest_backoff) b h

    four-fits : SFits w32 four
    four-fits = let l = low in let u = high in omega zarith

    both_fit : SFits w32 (four +ℤ two)
    both_fit = let l = low in let u = high in omega (zarith, mul 4 b, mul 2 (bit e), bit_bounds e)

    all_fit : SFits w32 (four +ℤ two +ℤ bit f)
    all_fit = let l = low in let u = high in omega (zarith, mul 4 b, mul 2 (bit e), add four two, bit_bounds e, bit_bounds f)

pub overflow_mul-result : goal.overflow_mul-result
overflow_mul-result c = rw (to_z-of_z c.ranges.b) (four-fits c.args.b c.args.e c.args.f c.requires)

pub overflow_add-result-2 : goal.overflow_add-result-2
overflow_add-result-2 c =
    let b = c.args.b in
    let e = c.args.e in
    let f = c.args.f in
    rw (c.from.ensures ∙ byte_is e, c.from-2.ensures ∙ byte_is f, to_z-of_z c.ranges.b, to_z-of_z (bit_fits e), to_z-of_z (bit_fits f), to_z-of_z (four-fits b e f c.requires), to_z-of_z (two_fits b e f), to_z-of_z (both_fit b e f c.requires))
    (all_fit b e f c.requires)

pub returns : goal.returns
returns c =
    let b = c.args.b in
    let e = c.args.e in
    let f = c.args.f in
    rw (c.from.ensures ∙ byte_is e, c.from-2.ensures ∙ byte_is f, to_z-of_z c.ranges.b, to_z-of_z (bit_fits e), to_z-of_z (bit_fits f), to_z-of_z (four-fits b e f c.requires), to_z-of_z (two_fits b e f), to_z-of_z (both_fit b e f c.requires), to_z-of_z (all_fit b e f c.requires))
    (packed b e f)
