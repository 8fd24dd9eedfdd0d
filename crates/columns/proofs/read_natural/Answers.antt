-- `columns::read_natural`: so many digits make a number that 63 bits hold.
use Rattle.std.proofs.Common.{◌^◌, ◌≤◌, length, pos, w64, sym, refl, ap, ◌∙◌, arith}
use Rattle.std.proofs.Math.Nat.{pow-le-pow_right}
use mir.Facts.{to_z_pos}
use Rattle.integer.proofs.Arithmetic.{zarith}
use Rattle.decimal.specs.Digits.{most_digits}
use Rattle.decimal.proofs.Digits.{natural-all}
use Rattle.columns.specs.Columns.{if_held, read_natural}
use Rattle.columns.proofs.read_natural.Goals as goal

pub returns-then-not-is_natural : goal.returns-then-not-is_natural
unfolding read_natural
returns-then-not-is_natural c = rw (sym c.is_natural.ensures ∙ c.if-not-is_natural.true) refl

pub value-requires : goal.value-requires
value-requires c = (natural-all c.args.text.now (sym c.is_natural.ensures ∙ c.if-not-is_natural.false), omega (arith, c.requires))

pub overflow_cast-value : goal.overflow_cast-value
overflow_cast-value c =
    let small : 10 ^ length c.args.text.now ≤ 10 ^ most_digits = pow-le-pow_right (omega arith) {j = most_digits} c.requires in
    omega zarith

pub returns : goal.returns
unfolding read_natural
returns c =
    let small : 10 ^ length c.args.text.now ≤ 10 ^ most_digits = pow-le-pow_right (omega arith) {j = most_digits} c.requires in
    rw (sym c.is_natural.ensures ∙ c.if-not-is_natural.false) (c.if_held.ensures ∙ ap if_held (to_z_pos w64 (omega arith) ∙ ap pos c.value.ensures.number))
