-- `arpa_headings::read_digits`: nine digits make a number that 32 bits hold.
use Rattle.std.proofs.Common.{◌≡◌, true, ◌^◌, ◌≤◌, length, sym, refl, ap, ◌∙◌, Some, arith}
use Rattle.std.proofs.Math.Nat.{pow-le-pow_right}
use Rattle.decimal.proofs.Digits.{at_most, all_digits_lem}
use Rattle.decimal.specs.Digits.{digits_up_to}
use Rattle.arpa_headings.specs.Headings.{count_in}
use Rattle.arpa_headings.proofs.read_digits.Goals as goal

pub value-requires : goal.value-requires
value-requires c =
    let e : digits_up_to 9 c.args.text.now ≡ true = sym c.digits_up_to.ensures ∙ c.if-digits_up_to.true in
    (all_digits_lem 9 c.args.text.now e, omega (arith, at_most 9 c.args.text.now e))

pub overflow_cast-result : goal.overflow_cast-result
overflow_cast-result c =
    let e : digits_up_to 9 c.args.text.now ≡ true = sym c.digits_up_to.ensures ∙ c.if-digits_up_to.true in
    let small : 10 ^ length c.args.text.now ≤ 10 ^ 9 = pow-le-pow_right (omega arith) {j = 9} (at_most 9 c.args.text.now e) in
    omega arith

pub returns-then-digits_up_to : goal.returns-then-digits_up_to
unfolding count_in
returns-then-digits_up_to c = rw (sym c.digits_up_to.ensures ∙ c.if-digits_up_to.true) (ap Some c.value.ensures.number)

pub returns-else-digits_up_to : goal.returns-else-digits_up_to
unfolding count_in
returns-else-digits_up_to c = rw (sym c.digits_up_to.ensures ∙ c.if-digits_up_to.false) refl
