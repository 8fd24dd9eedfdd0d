-- What `contains` of a range low..=high tells, in the test of the specifications. Assumes nothing.
use mathlib.Core.Path.{◌≡◌, refl}
use mathlib.Core.Bool.{Bool, true, false}
use lib.IntN.{ℤ}
use lib.Signed.{le_z, lt_z}
use Rattle.std.specs.Ordering.{int_cmp, is_le, as_partial_cmp}
use Rattle.std.specs.Range.{range_inclusive_contains, range_inclusive_start, range_inclusive_end, range_inclusive_exhausted}
use Rattle.std.specs.declared.ops.RangeInclusive.{RangeInclusive}
use Rattle.integer.specs.Integer.{between}
use Rattle.integer.proofs.Arithmetic.{zarith}

le_told : (a b : ℤ) → is_le (int_cmp a b) ≡ le_z a b
le_told a b = go (lt_z a b) (lt_z b a) (le_z a b) refl refl refl
  where
    go : (t u v : Bool) → lt_z a b ≡ t → lt_z b a ≡ u → le_z a b ≡ v → is_le (int_cmp a b) ≡ v
    go true u true e f g = rw e
    go true u false e f g = absurd (omega zarith)
    go false true true e f g = absurd (omega zarith)
    go false true false e f g = rw (e, f)
    go false false true e f g = rw (e, f)
    go false false false e f g = absurd (omega zarith)

pub between_told : (s : RangeInclusive ℤ) (low high z : ℤ) → range_inclusive_start s ≡ low → range_inclusive_end s ≡ high → range_inclusive_exhausted s ≡ false → range_inclusive_contains (as_partial_cmp int_cmp) s z ≡ between low high z
unfolding between
between_told s low high z e f g = rw (e, f, g, le_told low z, le_told z high)
