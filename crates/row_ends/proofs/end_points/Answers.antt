-- Each turn owes one back-off more, or finds the row.
use Rattle.std.proofs.Common.{sym, arith, true}
use Rattle.list.proofs.Check.{checked-good}
use Rattle.row_ends.proofs.Owed.{inside-words, owed_none, owed-end, owed-here, owed_more, backoff-summed, probability-summed, none-absent}
use Rattle.row_ends.proofs.end_points.Goals as goal

pub loop-at-init : goal.loop-at-init
loop-at-init c = record { sum = owed_none _ _ _ c.requires.0.1; absent = λ l. c.requires.1 }

pub back_off_of-owed-requires : goal.back_off_of-owed-requires
back_off_of-owed-requires c =
    let p = c.requires.0 in
    let f = c.loop-at.invariant.sum.from in
    let l = c.loop-at-test.true in
    let q = p.1 in
    (p.0, omega arith, omega (arith, p.2), omega (arith, p.3), inside-words _ _ _ _ _ f (omega arith) p.4)

pub overflow_add-owed : goal.overflow_add-owed
overflow_add-owed c = (backoff-summed c.requires.0.0 c.requires.0.3 c.loop-at.invariant.sum _ c.back_off_of-owed.ensures).fits

pub row_of-requires : goal.row_of-requires
row_of-requires c =
    let p = c.requires.0 in
    let f = c.loop-at.invariant.sum.from in
    let l = c.loop-at-test.true in
    let q = p.1 in
    (p.0, omega arith, p.2, omega (arith, p.3), inside-words _ _ _ _ _ (omega arith) (omega arith) p.4)

pub overflow_add-result : goal.overflow_add-result
overflow_add-result c =
    let b = backoff-summed c.requires.0.0 c.requires.0.3 c.loop-at.invariant.sum _ c.back_off_of-owed.ensures in
    let o = owed_more c.requires.0.0 c.loop-at.invariant.sum c.loop-at-test.true (c.loop-at.invariant.absent c.loop-at-test.true) in
    rw b.sum_is (probability-summed c.requires.0.0 c.requires.0.3 o _ c.in-Some.ensures).fits

pub returns-in-Some : goal.returns-in-Some
returns-in-Some c =
    let b = backoff-summed c.requires.0.0 c.requires.0.3 c.loop-at.invariant.sum _ c.back_off_of-owed.ensures in
    let o = owed_more c.requires.0.0 c.loop-at.invariant.sum c.loop-at-test.true (c.loop-at.invariant.absent c.loop-at-test.true) in
    let p = probability-summed c.requires.0.0 c.requires.0.3 o _ c.in-Some.ensures in
    rw (b.sum_is, p.sum_is) (sym (owed-here (checked-good true _ c.requires.0.0) o c.in-Some.ensures))

pub loop-at-preserved : goal.loop-at-preserved
loop-at-preserved c =
    let b = backoff-summed c.requires.0.0 c.requires.0.3 c.loop-at.invariant.sum _ c.back_off_of-owed.ensures in
    let o = owed_more c.requires.0.0 c.loop-at.invariant.sum c.loop-at-test.true (c.loop-at.invariant.absent c.loop-at-test.true) in
    rw b.sum_is (record { sum = o; absent = λ l. none-absent _ _ c.in_default.ensures })

pub returns : goal.returns
returns c = owed-end c.loop-at.invariant.sum c.loop-at-test.false
