-- `decimal::value`: the character at hand is a digit.
use Rattle.std.proofs.Common.{ℕ, ◌^◌, ◌<◌, ◌≤◌, length, sym, ◌∙◌, refl, add-one, arith}
use Rattle.std.proofs.Math.Nat.{pow-le-pow_right}
use Rattle.decimal.specs.Digits.{most_digits}
use Rattle.decimal.proofs.Scans.{digit_here, value_step, value_end}
use Rattle.decimal.proofs.value.Goals as goal

-- there is room for one more digit
tenth : (i n : ℕ) → i < n → n ≤ most_digits → 10 ^ i ≤ 10 ^ 17
tenth i n h l = pow-le-pow_right (omega arith) {j = 17} (omega arith)

pub overflow_mul-sum : goal.overflow_mul-sum
overflow_mul-sum c = omega (arith, tenth c.loop-c.c-index (length c.args.text.now) (omega arith) (omega arith))

pub overflow_sub-c : goal.overflow_sub-c
overflow_sub-c c = (digit_here c.args.text.now c.loop-c.c-index (omega arith) c.loop-c.invariant.all).0

pub overflow_add-sum : goal.overflow_add-sum
overflow_add-sum c =
    let d = digit_here c.args.text.now c.loop-c.c-index (omega arith) c.loop-c.invariant.all in
    omega (arith, tenth c.loop-c.c-index (length c.args.text.now) (omega arith) (omega arith))

pub loop-c-preserved : goal.loop-c-preserved
loop-c-preserved c =
    let text = c.args.text.now in
    let i = c.loop-c.c-index in
    let d = digit_here text i (omega arith) c.loop-c.invariant.all in
    record {
      left = c.loop-c.invariant.left ∙ value_step text i c.loop-c.sum (omega arith) ∙ rw c.from.ensures refl;
      all = d.2;
      small = rw (add-one i) (omega arith);
    }

pub returns-clause-number : goal.returns-clause-number
returns-clause-number c = sym (c.loop-c.invariant.left ∙ value_end c.args.text.now c.loop-c.c-index c.loop-c.sum (omega arith))
