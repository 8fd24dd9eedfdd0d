-- The sum carries exactly where the word is below d.
use mathlib.Core.Path.{◌≡◌}
use mathlib.Core.Bool.{cond}
use Prim.Native.Nat.{ℕ, ◌+◌, ◌*◌, ◌-◌, ◌/◌, ◌≤◌, ◌<◌}
use native.Mathlib.Omega.{arith}
use native.Mathlib.Decide.{dec_lt}
use lib.Dec.{ltb}
use borrow.Author.Tests.{lt-ltb, le-ltb}
use Rattle.child_slots.proofs.slot_behind.Goals as goal

-- what is taken from d
abbrev taken : ℕ → ℕ → ℕ
taken d w = w * ((d + 4294967295 - w) / 4294967296)

taken_is : (d w : ℕ) → d < 2147483648 → w ≤ 65535 → (taken d w ≤ d) × (d - taken d w ≡ cond (ltb w d) (d - w) d)
taken_is d w small word = go (dec_lt w d)
  where
    go : Dec (w < d) → (taken d w ≤ d) × (d - taken d w ≡ cond (ltb w d) (d - w) d)
    go (yes h) =
        let one : (d + 4294967295 - w) / 4294967296 ≡ 1 = omega arith in
        rw (one, lt-ltb w d h) (omega arith, omega arith)
    go (no h) =
        let none : (d + 4294967295 - w) / 4294967296 ≡ 0 = omega arith in
        rw (none, le-ltb w d (omega arith)) (omega arith, omega arith)

pub overflow_mul-result : goal.overflow_mul-result
overflow_mul-result c = omega (arith, (taken_is c.args.d c.args.w c.requires.0 c.requires.1).0, c.requires.0)

pub overflow_sub-result : goal.overflow_sub-result
overflow_sub-result c = (taken_is c.args.d c.args.w c.requires.0 c.requires.1).0

pub returns : goal.returns
returns c = (taken_is c.args.d c.args.w c.requires.0 c.requires.1).1
