-- `columns::put_signed`, by the sign.
use Rattle.std.proofs.Common.{◌+◌, ◌≤◌, suc, length, arith, add-one, length-set}
use Rattle.decimal.specs.Digits.{digits}
use Rattle.columns.specs.Columns.{signed}
use Rattle.columns.proofs.put_signed.Goals as goal

pub bounds-out-at : goal.bounds-out-at
unfolding signed
bounds-out-at c =
    let h : c.args.at + suc (length (digits c.args.size)) ≤ length c.args.out.now = rw c.if-negative.true at c.requires in
    omega arith

pub put_digits-requires : goal.put_digits-requires
unfolding signed
put_digits-requires c =
    let h : c.args.at + suc (length (digits c.args.size)) ≤ length c.args.out.now = rw c.if-negative.true at c.requires in
    simp length-set (omega arith)

pub put_digits-requires-else-negative : goal.put_digits-requires-else-negative
unfolding signed
put_digits-requires-else-negative c = rw c.if-negative.false at c.requires

pub returns-then-negative-clause-place : goal.returns-then-negative-clause-place
unfolding signed
returns-then-negative-clause-place c = rw c.if-negative.true (omega (arith, c.put_digits.ensures.place))

pub returns-then-negative-clause-text : goal.returns-then-negative-clause-text
unfolding signed
returns-then-negative-clause-text c = rw c.if-negative.true (rw (add-one c.args.at) at c.put_digits.ensures.text)

pub returns-else-negative-clause-place : goal.returns-else-negative-clause-place
unfolding signed
returns-else-negative-clause-place c = rw c.if-negative.false c.put_digits-else-negative.ensures.place

pub returns-else-negative-clause-text : goal.returns-else-negative-clause-text
unfolding signed
returns-else-negative-clause-text c = rw c.if-negative.false c.put_digits-else-negative.ensures.text
