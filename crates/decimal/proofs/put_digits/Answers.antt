-- `decimal::put_digits`: the digit that is stored is the last of the rest's.
use Rattle.std.proofs.Common.{◌≡◌, ◌+◌, ◌-◌, ◌/◌, ◌%◌, length, sym, refl, ◌∙◌, ap, arith}
use Rattle.integer.proofs.Stores.{sets_last}
use Rattle.decimal.specs.Digits.{digits}
use Rattle.decimal.proofs.Digits.{digits-one, digits_more, digits_lead, length-digits-more, digits_more_than_one, digits_just_one}
use Rattle.decimal.proofs.put_digits.Goals as goal

pub loop-place-preserved : goal.loop-place-preserved
loop-place-preserved c =
    let rest = c.loop-place.rest in
    let h = digits_more_than_one rest (omega arith) in
    let e : c.loop-place.place - 1 ≡ c.args.at + length (digits (rest / 10)) = omega (arith, length-digits-more rest h) in
    record {
      left = c.loop-place.invariant.left ∙ rw (e, digits_more rest h) (sets_last c.loop-place.out c.args.at (digits (rest / 10)) (48 + rest % 10));
      room = e;
    }

pub overflow_cast-out-2 : goal.overflow_cast-out-2
overflow_cast-out-2 c = omega (arith, digits_just_one c.loop-place.rest (omega arith))

pub overflow_add-out-2 : goal.overflow_add-out-2
overflow_add-out-2 c = omega (arith, digits_just_one c.loop-place.rest (omega arith))

pub bounds-out-at : goal.bounds-out-at
bounds-out-at c = let l = digits_lead c.args.n in let e = ap length l.is in omega arith

pub returns-clause-text : goal.returns-clause-text
returns-clause-text c =
    let e = digits-one c.loop-place.rest (digits_just_one c.loop-place.rest (omega arith)) in
    sym (c.loop-place.invariant.left ∙ rw e refl)
