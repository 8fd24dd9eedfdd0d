-- `columns::signed_length`: a minus is one character.
use Rattle.std.proofs.Common.{◌≡◌, ℕ, ◌+◌, ◌≤◌, Bool, true, false, length, sym, arith, one-add, zero-add}
use mir.Val.{bool_byte}
use Rattle.decimal.specs.Digits.{digits}
use Rattle.decimal.proofs.Digits.{digits_le}
use Rattle.columns.specs.Columns.{signed}
use Rattle.columns.proofs.signed_length.Goals as goal

by_sign : (negative : Bool) (size : ℕ) → (length (signed negative size) ≡ bool_byte negative + length (digits size)) × (bool_byte negative ≤ 1)
unfolding signed
by_sign true size = (sym (one-add (length (digits size))), omega arith)
by_sign false size = (sym (zero-add (length (digits size))), omega arith)

pub overflow_add-result : goal.overflow_add-result
overflow_add-result c =
    let l = digits_le 19 c.args.size (omega arith) in
    let b = by_sign c.args.negative c.args.size in
    omega (arith, c.from.ensures)

pub returns : goal.returns
returns c =
    let b = by_sign c.args.negative c.args.size in
    omega (arith, c.from.ensures)
