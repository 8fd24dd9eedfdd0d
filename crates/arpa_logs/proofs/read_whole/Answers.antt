-- `arpa_logs::read_whole`: three digits make less than 1,000.
use Rattle.std.proofs.Common.{◌≡◌, ◌*◌, ◌^◌, ◌≤◌, true, length, sym, ap, ◌∙◌, arith}
use Rattle.std.proofs.Math.Nat.{pow-le-pow_right}
use Rattle.decimal.specs.Digits.{digits_up_to}
use Rattle.decimal.proofs.Digits.{at_most, all_digits_lem}
use Rattle.arpa_logs.specs.Logs.{decimals}
use Rattle.arpa_logs.proofs.read_whole.Goals as goal

pub value-requires : goal.value-requires
value-requires c =
    let text = c.args.text.now in
    let e : digits_up_to 3 text ≡ true = sym c.digits_up_to.ensures ∙ c.if-not-digits_up_to.false in
    (all_digits_lem 3 text e, omega (arith, at_most 3 text e))

pub overflow_mul-result : goal.overflow_mul-result
overflow_mul-result c =
    let text = c.args.text.now in
    let e : digits_up_to 3 text ≡ true = sym c.digits_up_to.ensures ∙ c.if-not-digits_up_to.false in
    let small : 10 ^ length text ≤ 10 ^ 3 = pow-le-pow_right (omega arith) {j = 3} (at_most 3 text e) in
    omega arith

pub returns : goal.returns
returns c =
    let text = c.args.text.now in
    let e : digits_up_to 3 text ≡ true = sym c.digits_up_to.ensures ∙ c.if-not-digits_up_to.false in
    let small : 10 ^ length text ≤ 10 ^ 3 = pow-le-pow_right (omega arith) {j = 3} (at_most 3 text e) in
    (e, ap (λ n. n * 10 ^ decimals) c.value.ensures.number, omega arith)
