-- `arpa_logs::read_fraction`: seven digits, those that are missing counted as zeros, make less than a whole.
use Rattle.std.proofs.Common.{◌≡◌, ℕ, ◌+◌, ◌*◌, ◌-◌, ◌^◌, ◌<◌, ◌≤◌, true, length, sym, ap, refl, ◌∙◌, arith, pow-add}
use Rattle.std.proofs.Math.Nat.{pow-le-pow_right, mul-lt-mul_of_pos_right}
use Rattle.decimal.specs.Digits.{digits_up_to}
use Rattle.decimal.proofs.Digits.{at_most, all_digits_lem}
use Rattle.arpa_logs.specs.Logs.{fraction}
use Rattle.arpa_logs.proofs.read_fraction.Goals as goal

below : (v k : ℕ) → k ≤ 7 → v < 10 ^ k → v * 10 ^ (7 - k) < 10 ^ 7
below v k l h =
    let z : 10 ^ 0 ≤ 10 ^ (7 - k) = pow-le-pow_right (omega arith) {i = 0} (omega arith) in
    let m : v * 10 ^ (7 - k) < 10 ^ k * 10 ^ (7 - k) = mul-lt-mul_of_pos_right h (omega arith) in
    let s : k + (7 - k) ≡ 7 = omega arith in
    let p : 10 ^ 7 ≡ 10 ^ k * 10 ^ (7 - k) = ap (λ n. 10 ^ n) (sym s) ∙ pow-add 10 k (7 - k) in
    omega arith

pub value-requires : goal.value-requires
value-requires c =
    let text = c.args.text.now in
    let e : digits_up_to 7 text ≡ true = sym c.digits_up_to.ensures ∙ c.if-not-digits_up_to.false in
    (all_digits_lem 7 text e, omega (arith, at_most 7 text e))

pub overflow_sub-text : goal.overflow_sub-text
overflow_sub-text c = at_most 7 c.args.text.now (sym c.digits_up_to.ensures ∙ c.if-not-digits_up_to.false)

pub pow-requires : goal.pow-requires
pow-requires c =
    let l : 10 ^ (7 - length c.args.text.now) ≤ 10 ^ 7 = pow-le-pow_right (omega arith) {j = 7} (omega arith) in
    omega arith

pub overflow_mul-result : goal.overflow_mul-result
overflow_mul-result c =
    let text = c.args.text.now in
    let l = at_most 7 text (sym c.digits_up_to.ensures ∙ c.if-not-digits_up_to.false) in
    let h = below c.value.result (length text) l c.value.ensures.small in
    rw c.pow.ensures (omega arith)

pub returns : goal.returns
unfolding fraction
returns c =
    let text = c.args.text.now in
    let e : digits_up_to 7 text ≡ true = sym c.digits_up_to.ensures ∙ c.if-not-digits_up_to.false in
    let h = below c.value.result (length text) (at_most 7 text e) c.value.ensures.small in
    (e, rw (c.pow.ensures, c.value.ensures.number) refl, rw c.pow.ensures h)
