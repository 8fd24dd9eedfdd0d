-- `columns::read_negative`: so many digits make a number that 63 bits hold.
use Rattle.std.proofs.Common.{◌≡◌, ◌^◌, ◌≤◌, length, ℤ, pos, neg_ℤ, ◌-ℤ◌, w64, sym, refl, ap, ◌∙◌, arith}
use Rattle.std.proofs.Math.Nat.{pow-le-pow_right}
use Rattle.std.proofs.Math.IntN.{+ℤ_idl}
use mir.Val.{SFits, to_z}
use mir.Facts.{to_z-of_z, to_z_pos}
use borrow.Author.Tests.{eq-eqb, ne_eqb}
use Rattle.integer.proofs.Arithmetic.{zarith}
use Rattle.decimal.specs.Digits.{most_digits, value_from}
use Rattle.decimal.proofs.Digits.{natural-all}
use Rattle.columns.specs.Columns.{if_held, read_negative}
use Rattle.columns.proofs.read_negative.Goals as goal

pub returns-then-not-is_natural : goal.returns-then-not-is_natural
unfolding read_negative
returns-then-not-is_natural c = rw (sym c.is_natural.ensures ∙ c.if-not-is_natural.true) refl

pub value-size-requires : goal.value-size-requires
value-size-requires c = (natural-all c.args.text.now (sym c.is_natural.ensures ∙ c.if-not-is_natural.false), omega (arith, c.requires))

pub returns-then-size-eq0 : goal.returns-then-size-eq0
unfolding read_negative
returns-then-size-eq0 c =
    let text = c.args.text.now in
    rw (sym c.is_natural.ensures ∙ c.if-not-is_natural.false, eq-eqb (value_from 0 text) 0 (sym c.value-size.ensures.number ∙ c.if-size-eq0.true)) refl

pub overflow_cast-size : goal.overflow_cast-size
overflow_cast-size c =
    let small : 10 ^ length c.args.text.now ≤ 10 ^ most_digits = pow-le-pow_right (omega arith) {j = most_digits} c.requires in
    omega zarith

pub overflow_sub-size : goal.overflow_sub-size
overflow_sub-size c =
    let small : 10 ^ length c.args.text.now ≤ 10 ^ most_digits = pow-le-pow_right (omega arith) {j = most_digits} c.requires in
    let t : to_z w64 c.value-size.result ≡ pos c.value-size.result = to_z_pos w64 (omega arith) in
    omega (zarith, t)

pub returns : goal.returns
unfolding read_negative
returns c =
    let text = c.args.text.now in
    let n = c.value-size.ensures.number in
    let small : 10 ^ length text ≤ 10 ^ most_digits = pow-le-pow_right (omega arith) {j = most_digits} c.requires in
    let t : to_z w64 c.value-size.result ≡ pos (value_from 0 text) = to_z_pos w64 (omega arith) ∙ ap pos n in
    let f : SFits w64 (pos 0 -ℤ to_z w64 c.value-size.result) = omega (zarith, t) in
    rw (sym c.is_natural.ensures ∙ c.if-not-is_natural.false, ne_eqb (value_from 0 text) 0 (λ e. c.if-size-eq0.false (n ∙ e)))
    (c.if_held.ensures ∙ ap if_held (to_z-of_z f ∙ ap (λ (y : ℤ). pos 0 -ℤ y) t ∙ +ℤ_idl (neg_ℤ (pos (value_from 0 text)))))
