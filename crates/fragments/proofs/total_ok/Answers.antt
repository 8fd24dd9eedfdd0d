-- The product of count, order and largest back-off fits 64 bits by far.
use Rattle.std.proofs.Common.{rules, ◌≡◌, true, false, ◌&&◌, ℕ, ◌*◌, ◌≤◌, ◌<◌, ℤ, pos, nat_abs, ◌-ℤ◌, ◌*ℤ◌, ◌≤ℤ◌, ◌<ℤ◌, leb, sym, ◌∙◌, arith}
use mathlib.Core.Logic.{◌⊎◌, inl, inr}
use native.Mathlib.Nat.{mul-le-mul_left, mul-le-mul_right}
use native.Mathlib.Decide.{dec_le}
use lib.Signed.{le_z}
use borrow.Author.Tests.{le-leb, lt-leb}
use mir.Syntax.{w64}
use mir.Val.{SFits, to_z, of_z}
use mir.Facts.{to_z-of_z, to_z_pos}
use Rattle.integer.specs.Integer.{between}
use Rattle.integer.proofs.Arithmetic.{zarith, abs, sub, and_no, le_or_lt}
use Rattle.backoff.specs.Limits.{order_limit, largest_backoff}
use Rattle.carried_state.proofs.Contained.{between_told}
use Rattle.fragments.proofs.total_ok.Goals as goal

within : (z : ℤ) (m : ℕ) → between (pos 0 -ℤ pos m) (pos m) z ≡ leb (nat_abs z) m
unfolding between
within z m = go (dec_le (nat_abs z) m) (le_or_lt z (pos m))
  where
    go : Dec (nat_abs z ≤ m) → (z ≤ℤ pos m) ⊎ (pos m <ℤ z) → (le_z (pos 0 -ℤ pos m) z && le_z z (pos m)) ≡ leb (nat_abs z) m
    go (yes h) o =
        let low : le_z (pos 0 -ℤ pos m) z ≡ true = omega (zarith, abs z, sub (pos 0) (pos m)) in
        let high : le_z z (pos m) ≡ true = omega (zarith, abs z) in
        rw (low, high, le-leb (nat_abs z) m h)
    go (no h) (inl o) = let low : le_z (pos 0 -ℤ pos m) z ≡ false = omega (zarith, abs z, sub (pos 0) (pos m)) in rw (low, lt-leb (nat_abs z) m (omega arith))
    go (no h) (inr o) = let high : le_z z (pos m) ≡ false = omega zarith in and_no (le_z (pos 0 -ℤ pos m) z) (le_z z (pos m)) high ∙ sym (lt-leb (nat_abs z) m (omega arith))

module _ (order count : ℕ) (few : order ≤ order_limit) (small : count < 4294967296) where
  abbrev most : ℕ
  most = count * (order * largest_backoff)

  most_small : most ≤ count * (order_limit * largest_backoff)
  most_small = mul-le-mul_left count (mul-le-mul_right largest_backoff few)

  factor_fits : SFits w64 (pos (order * largest_backoff))
  factor_fits = omega zarith

  count_fits : SFits w64 (pos count)
  count_fits = omega zarith

  largest_fits : SFits w64 (pos largest_backoff)
  largest_fits = omega zarith

  most-fits : SFits w64 (pos most)
  most-fits = omega (zarith, most_small)

  least_fits : SFits w64 (pos 0 -ℤ pos most)
  least_fits = omega (zarith, most_small)

  order-read : to_z w64 order ≡ pos order
  order-read = to_z_pos w64 (omega arith)

  most-is : (x y : ℤ) → x ≡ pos count → y ≡ pos largest_backoff → to_z w64 (of_z w64 (to_z w64 (of_z w64 x) *ℤ to_z w64 (of_z w64 (to_z w64 order *ℤ to_z w64 (of_z w64 y))))) ≡ pos most
  most-is x y e f = rw (e, f, to_z-of_z count_fits, to_z-of_z largest_fits, order-read, to_z-of_z factor_fits) (to_z-of_z most-fits)

pub returns : goal.returns
returns c =
    let small : c.args.count < 4294967296 = search rules in
    let m = most-is c.args.order c.args.count c.requires small c.from.result c.from-2.result c.from.ensures c.from-2.ensures in
    let start = rw m at c.new.ensures.start in
    c.contains.ensures.value
    ∙ rw (to_z-of_z c.ranges.total) (between_told c.new.result _ _ c.args.total (start ∙ to_z-of_z (least_fits c.args.order c.args.count c.requires small)) (c.new.ensures.end ∙ m) c.new.ensures.exhausted)
    ∙ within c.args.total (most c.args.order c.args.count c.requires small)
