-- What `contains` of a range tells, in the tests of the specifications. Assumes nothing.
use mathlib.Core.Path.{◌≡◌, refl}
use mathlib.Core.Bool.{Bool, true, false, ◌&&◌}
use Prim.Native.Nat.{ℕ}
use native.Mathlib.Omega.{arith}
use lib.Dec.{leb, ltb}
use lib.IntN.{ℤ}
use lib.Signed.{le_z, lt_z}
use Rattle.std.specs.Ordering.{int_cmp, nat_cmp, is_le, is_lt, as_partial_cmp}
use Rattle.std.specs.Range.{range_inclusive_contains, range_inclusive_start, range_inclusive_end, range_inclusive_exhausted}
use Rattle.std.specs.declared.ops.RangeInclusive.{RangeInclusive}
use Rattle.std.proofs.lemmas.Bool.Decides.{nat_tests}
use Rattle.integer.specs.Integer.{between}
use Rattle.integer.proofs.Arithmetic.{zarith}

pub le_told : (a b : ℤ) → is_le (int_cmp a b) ≡ le_z a b
le_told a b = go (lt_z a b) (lt_z b a) (le_z a b) refl refl refl
  where
    go : (t u v : Bool) → lt_z a b ≡ t → lt_z b a ≡ u → le_z a b ≡ v → is_le (int_cmp a b) ≡ v
    go true u true e f g = rw e
    go true u false e f g = absurd (omega zarith)
    go false true true e f g = absurd (omega zarith)
    go false true false e f g = rw (e, f)
    go false false true e f g = rw (e, f)
    go false false false e f g = absurd (omega zarith)

pub lt_told : (a b : ℤ) → is_lt (int_cmp a b) ≡ lt_z a b
lt_told a b = go (lt_z a b) (lt_z b a) refl refl
  where
    go : (t u : Bool) → lt_z a b ≡ t → lt_z b a ≡ u → is_lt (int_cmp a b) ≡ t
    go true u e f = rw e
    go false true e f = rw (e, f)
    go false false e f = rw (e, f)

-- low..=high, as it is made
pub between_told : (s : RangeInclusive ℤ) (low high z : ℤ) → range_inclusive_start s ≡ low → range_inclusive_end s ≡ high → range_inclusive_exhausted s ≡ false → range_inclusive_contains (as_partial_cmp int_cmp) s z ≡ between low high z
unfolding between
between_told s low high z e f g = rw (e, f, g, le_told low z, le_told z high)

-- low..high
pub below_told : (low high z : ℤ) → (is_le (int_cmp low z) && is_lt (int_cmp z high)) ≡ (le_z low z && lt_z z high)
below_told low high z = rw (le_told low z, lt_told z high)

nat_le_told : (a b : ℕ) → is_le (nat_cmp a b) ≡ leb a b
nat_le_told a b = grind (arith, nat_tests)

nat_lt_told : (a b : ℕ) → is_lt (nat_cmp a b) ≡ ltb a b
nat_lt_told a b = grind (arith, nat_tests)

-- the same of natural numbers
pub within_told : (s : RangeInclusive ℕ) (low high n : ℕ) → range_inclusive_start s ≡ low → range_inclusive_end s ≡ high → range_inclusive_exhausted s ≡ false → range_inclusive_contains (as_partial_cmp nat_cmp) s n ≡ (leb low n && leb n high)
within_told s low high n e f g = rw (e, f, g, nat_le_told low n, nat_le_told n high)
