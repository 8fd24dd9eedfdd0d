use Rattle.std.proofs.Common.{rules, pos, get_or, sym}
use mir.Syntax.{w32}
use mir.Val.{SFits, to_z}
use mir.Facts.{to_z-of_z}
use borrow.Author.Tests.{ltb-true}
use Rattle.integer.proofs.Ranges.{and_left}
use Rattle.double_array.proofs.DoubleArray.{opened-sizes}
use Rattle.word_walk.proofs.Turning.{no_more, count-few, loop_begins, loop_broken, total-fits, points-fit, owed-fits, loop_on, loop_stops, long, owed_small, total_small, loop_ends}
use Rattle.word_walk.proofs.walk.Goals as goal

pub loop-passed-init : goal.loop-passed-init
loop-passed-init c =
    let f : SFits w32 c.args.carried.owed = search rules in
    rw to_z-of_z (loop_begins c.args.array.base.now c.args.array.check.now c.args.array.is_array c.args.slot c.args.carried c.args.backoffs.now c.requires.carries c.requires.slot_in_bounds)

pub returns-in_default-clause-reached : goal.returns-in_default-clause-reached
returns-in_default-clause-reached c = λ v e. (loop_broken c.args.array.base.now c.args.array.check.now c.args.array.is_array c.args.slot c.args.carried c.args.backoffs.now c.requires.carries c.loop-passed.backoffs c.loop-passed.older (to_z w32 c.loop-passed.owed-bits) c.loop-passed.s c.loop-passed.passed (to_z w32 c.loop-passed.sum-bits) c.loop-passed.kept c.loop-passed.invariant (ltb-true _ _ (and_left _ _ c.loop-passed-test.true)) (sym c.in_default.ensures) v e)

pub overflow_add-sum : goal.overflow_add-sum
overflow_add-sum c =
    let f : SFits w32 c.in-Some.field-0.p = search rules in
    let g : SFits w32 c.in-Some.field-0.b = search rules in
    rw (to_z-of_z g) (total-fits c.args.array.base.now c.args.array.check.now c.args.array.is_array c.args.slot c.args.carried c.args.backoffs.now c.requires.carries c.loop-passed.backoffs c.loop-passed.older (to_z w32 c.loop-passed.owed-bits) c.loop-passed.s c.loop-passed.passed (to_z w32 c.loop-passed.sum-bits) c.loop-passed.kept c.loop-passed.invariant (ltb-true _ _ (and_left _ _ c.loop-passed-test.true)) c.in-Some.field-0.p c.in-Some.field-0.b c.in-Some.field-0.e c.in-Some.field-0.f (sym c.in-Some.ensures))

pub next_node-requires-clause-base_len_bound : goal.next_node-requires-clause-base_len_bound
next_node-requires-clause-base_len_bound c = (opened-sizes c.args.array.base.now c.args.array.check.now c.args.array.is_array).high

pub overflow_add-result : goal.overflow_add-result
overflow_add-result c =
    let f : SFits w32 c.in-Some.field-0.p = search rules in
    let g : SFits w32 c.in-Some.field-0.b = search rules in
    rw (to_z-of_z f) (points-fit c.args.array.base.now c.args.array.check.now c.args.array.is_array c.args.slot c.args.carried c.args.backoffs.now c.requires.carries c.loop-passed.backoffs c.loop-passed.older (to_z w32 c.loop-passed.owed-bits) c.loop-passed.s c.loop-passed.passed (to_z w32 c.loop-passed.sum-bits) c.loop-passed.kept c.loop-passed.invariant (ltb-true _ _ (and_left _ _ c.loop-passed-test.true)) c.in-Some.field-0.p c.in-Some.field-0.b c.in-Some.field-0.e c.in-Some.field-0.f (sym c.in-Some.ensures))

pub returns-in_default-next_node-clause-reached : goal.returns-in_default-next_node-clause-reached
returns-in_default-next_node-clause-reached c = λ v e.
    let f : SFits w32 c.in-Some.field-0.p = search rules in
    let g : SFits w32 c.in-Some.field-0.b = search rules in
    let h = points-fit c.args.array.base.now c.args.array.check.now c.args.array.is_array c.args.slot c.args.carried c.args.backoffs.now c.requires.carries c.loop-passed.backoffs c.loop-passed.older (to_z w32 c.loop-passed.owed-bits) c.loop-passed.s c.loop-passed.passed (to_z w32 c.loop-passed.sum-bits) c.loop-passed.kept c.loop-passed.invariant (ltb-true _ _ (and_left _ _ c.loop-passed-test.true)) c.in-Some.field-0.p c.in-Some.field-0.b c.in-Some.field-0.e c.in-Some.field-0.f (sym c.in-Some.ensures) in
    let k = total-fits c.args.array.base.now c.args.array.check.now c.args.array.is_array c.args.slot c.args.carried c.args.backoffs.now c.requires.carries c.loop-passed.backoffs c.loop-passed.older (to_z w32 c.loop-passed.owed-bits) c.loop-passed.s c.loop-passed.passed (to_z w32 c.loop-passed.sum-bits) c.loop-passed.kept c.loop-passed.invariant (ltb-true _ _ (and_left _ _ c.loop-passed-test.true)) c.in-Some.field-0.p c.in-Some.field-0.b c.in-Some.field-0.e c.in-Some.field-0.f (sym c.in-Some.ensures) in
    rw (to_z-of_z f, to_z-of_z g, to_z-of_z h, c.longest_live-kept.ensures, to_z-of_z g, to_z-of_z k) (loop_stops c.args.array.base.now c.args.array.check.now c.args.array.is_array c.args.slot c.args.carried c.args.backoffs.now c.requires.carries c.loop-passed.backoffs c.loop-passed.older (to_z w32 c.loop-passed.owed-bits) c.loop-passed.s c.loop-passed.passed (to_z w32 c.loop-passed.sum-bits) c.loop-passed.kept c.loop-passed.invariant (ltb-true _ _ (and_left _ _ c.loop-passed-test.true)) c.in-Some.field-0.p c.in-Some.field-0.b c.in-Some.field-0.e c.in-Some.field-0.f (sym c.in-Some.ensures) (sym c.in_default-next_node.ensures) v e)

pub overflow_sub-owed : goal.overflow_sub-owed
overflow_sub-owed c =
    let f : SFits w32 (get_or c.loop-passed.backoffs c.loop-passed.passed (pos 0)) = search rules in
    rw (to_z-of_z f) (owed-fits c.args.array.base.now c.args.array.check.now c.args.array.is_array c.args.slot c.args.carried c.args.backoffs.now c.requires.carries c.loop-passed.backoffs c.loop-passed.older (to_z w32 c.loop-passed.owed-bits) c.loop-passed.s c.loop-passed.passed (to_z w32 c.loop-passed.sum-bits) c.loop-passed.kept c.loop-passed.invariant (ltb-true _ _ (and_left _ _ c.loop-passed-test.true)))

pub loop-passed-preserved : goal.loop-passed-preserved
loop-passed-preserved c =
    let f : SFits w32 c.in-Some.field-0.p = search rules in
    let g : SFits w32 c.in-Some.field-0.b = search rules in
    let h : SFits w32 (get_or c.loop-passed.backoffs c.loop-passed.passed (pos 0)) = search rules in
    let k = total-fits c.args.array.base.now c.args.array.check.now c.args.array.is_array c.args.slot c.args.carried c.args.backoffs.now c.requires.carries c.loop-passed.backoffs c.loop-passed.older (to_z w32 c.loop-passed.owed-bits) c.loop-passed.s c.loop-passed.passed (to_z w32 c.loop-passed.sum-bits) c.loop-passed.kept c.loop-passed.invariant (ltb-true _ _ (and_left _ _ c.loop-passed-test.true)) c.in-Some.field-0.p c.in-Some.field-0.b c.in-Some.field-0.e c.in-Some.field-0.f (sym c.in-Some.ensures) in
    let o = owed-fits c.args.array.base.now c.args.array.check.now c.args.array.is_array c.args.slot c.args.carried c.args.backoffs.now c.requires.carries c.loop-passed.backoffs c.loop-passed.older (to_z w32 c.loop-passed.owed-bits) c.loop-passed.s c.loop-passed.passed (to_z w32 c.loop-passed.sum-bits) c.loop-passed.kept c.loop-passed.invariant (ltb-true _ _ (and_left _ _ c.loop-passed-test.true)) in
    rw (to_z-of_z g, to_z-of_z h, to_z-of_z k, to_z-of_z o, c.longest_live-kept.ensures, to_z-of_z g, to_z-of_z k) (loop_on c.args.array.base.now c.args.array.check.now c.args.array.is_array c.args.slot c.args.carried c.args.backoffs.now c.requires.carries c.loop-passed.backoffs c.loop-passed.older (to_z w32 c.loop-passed.owed-bits) c.loop-passed.s c.loop-passed.passed (to_z w32 c.loop-passed.sum-bits) c.loop-passed.kept c.loop-passed.invariant (ltb-true _ _ (and_left _ _ c.loop-passed-test.true)) c.in-Some.field-0.p c.in-Some.field-0.b c.in-Some.field-0.e c.in-Some.field-0.f (sym c.in-Some.ensures) c.in-Some-next_node.t (sym c.in-Some-next_node.ensures))

pub returns-clause-last : goal.returns-clause-last
returns-clause-last c =
    (long c.args.array.base.now c.args.array.check.now c.args.array.is_array c.args.slot c.args.carried c.args.backoffs.now c.requires.carries c.loop-passed.backoffs c.loop-passed.older (to_z w32 c.loop-passed.owed-bits) c.loop-passed.s c.loop-passed.passed (to_z w32 c.loop-passed.sum-bits) c.loop-passed.kept c.loop-passed.invariant, (c.loop-passed.invariant.inside, owed_small c.args.array.base.now c.args.array.check.now c.args.array.is_array c.args.slot c.args.carried c.args.backoffs.now c.requires.carries c.loop-passed.backoffs c.loop-passed.older (to_z w32 c.loop-passed.owed-bits) c.loop-passed.s c.loop-passed.passed (to_z w32 c.loop-passed.sum-bits) c.loop-passed.kept c.loop-passed.invariant, total_small c.args.array.base.now c.args.array.check.now c.args.array.is_array c.args.slot c.args.carried c.args.backoffs.now c.requires.carries c.loop-passed.backoffs c.loop-passed.older (to_z w32 c.loop-passed.owed-bits) c.loop-passed.s c.loop-passed.passed (to_z w32 c.loop-passed.sum-bits) c.loop-passed.kept c.loop-passed.invariant (no_more _ _ c.loop-passed.invariant.few (count-few c.args.array.base.now c.args.array.check.now c.args.array.is_array c.args.slot c.args.carried c.args.backoffs.now c.requires.carries) c.loop-passed-test.false)))

pub returns-clause-reached : goal.returns-clause-reached
returns-clause-reached c = λ v e. loop_ends c.args.array.base.now c.args.array.check.now c.args.array.is_array c.args.slot c.args.carried c.args.backoffs.now c.requires.carries c.loop-passed.backoffs c.loop-passed.older (to_z w32 c.loop-passed.owed-bits) c.loop-passed.s c.loop-passed.passed (to_z w32 c.loop-passed.sum-bits) c.loop-passed.kept c.loop-passed.invariant (no_more _ _ c.loop-passed.invariant.few (count-few c.args.array.base.now c.args.array.check.now c.args.array.is_array c.args.slot c.args.carried c.args.backoffs.now c.requires.carries) c.loop-passed-test.false) v e
