use Rattle.std.specs.declared.option.Option.TheVariants.{Some}
use Rattle.std.proofs.Common.{◌≡◌, sym, ◌∙◌, arith}
use Rattle.child_slots.specs.Children.{child_at}
use Rattle.child_slots.proofs.Children.{child-inside}
use Rattle.double_array.specs.DoubleArray.{order_in}
use Rattle.double_array.proofs.DoubleArray.{opened-sizes, opened-head, opened-order, root-child}
use Rattle.carried_state.specs.Packed.{held_in}
use Rattle.word_step.proofs.Stepping.{missing_refused, refused, answerable, walk_refused, stepped}
use Rattle.word_step.proofs.step.Goals as goal

pub root_child-requires : goal.root_child-requires
root_child-requires c = (opened-head c.args.array.base.now c.args.array.check.now c.args.array.is_array).root-check

pub returns-in_err-slot : goal.returns-in_err-slot
returns-in_err-slot c = λ w e. rw c.from_residual.ensures (refused (missing_refused c.args.array.base.now c.args.array.check.now c.args.array.is_array w c.args.word e (held_in c.args.carried c.args.backoffs.now) (sym c.in_err-slot.ensures)))

pub walk-requires-clause-slot_in_bounds : goal.walk-requires-clause-slot_in_bounds
walk-requires-clause-slot_in_bounds c =
    let k : child_at c.args.array.base.now c.args.array.check.now 0 c.args.word ≡ Some c.in_ok-slot.slot = sym (root-child c.args.array.base.now c.args.array.check.now c.args.array.is_array c.args.word) ∙ sym c.in_ok-slot.ensures in
    omega (arith, child-inside c.args.array.base.now c.args.array.check.now 0 c.args.word c.in_ok-slot.slot k, (opened-sizes c.args.array.base.now c.args.array.check.now c.args.array.is_array).same)

pub returns-in_err-reached : goal.returns-in_err-reached
returns-in_err-reached c = λ w e.
    let k : child_at c.args.array.base.now c.args.array.check.now 0 c.args.word ≡ Some c.in_ok-slot.slot = sym (root-child c.args.array.base.now c.args.array.check.now c.args.array.is_array c.args.word) ∙ sym c.in_ok-slot.ensures in
    rw c.from_residual-in_err-reached.ensures (walk_refused c.args.array.base.now c.args.array.check.now c.args.array.is_array c.args.carried c.args.backoffs.now c.requires c.args.word c.in_ok-slot.slot k (order_in c.args.array.check.now) w e c.walk.new.backoffs (c.in_err-reached.ensures.reached c.args.word k))

pub last_node-requires : goal.last_node-requires
last_node-requires c =
    record { count_bound = (omega (arith, c.requires.few, opened-order c.args.array.base.now c.args.array.check.now c.args.array.is_array), c.in_ok-reached.ensures.last.0, c.in_ok-reached.ensures.last.1) }

pub returns-in_err-walked : goal.returns-in_err-walked
returns-in_err-walked c = λ w e.
    let k : child_at c.args.array.base.now c.args.array.check.now 0 c.args.word ≡ Some c.in_ok-slot.slot = sym (root-child c.args.array.base.now c.args.array.check.now c.args.array.is_array c.args.word) ∙ sym c.in_ok-slot.ensures in
    rw c.from_residual-in_err-walked.ensures (walk_refused c.args.array.base.now c.args.array.check.now c.args.array.is_array c.args.carried c.args.backoffs.now c.requires c.args.word c.in_ok-slot.slot k (order_in c.args.array.check.now) w e c.last_node.new.backoffs (c.in_err-walked.ensures (held_in c.args.carried c.args.backoffs.now) c.args.word (c.in_ok-reached.ensures.reached c.args.word k)))

pub answered-requires : goal.answered-requires
answered-requires c =
    let k : child_at c.args.array.base.now c.args.array.check.now 0 c.args.word ≡ Some c.in_ok-slot.slot = sym (root-child c.args.array.base.now c.args.array.check.now c.args.array.is_array c.args.word) ∙ sym c.in_ok-slot.ensures in
    answerable c.args.array.base.now c.args.array.check.now c.args.array.is_array c.args.carried c.args.backoffs.now c.requires c.args.word c.in_ok-slot.slot k c.in_ok-walked.walked c.last_node.new.backoffs (c.in_ok-walked.ensures (held_in c.args.carried c.args.backoffs.now) c.args.word (c.in_ok-reached.ensures.reached c.args.word k))

pub returns : goal.returns
returns c = λ w e.
    let k : child_at c.args.array.base.now c.args.array.check.now 0 c.args.word ≡ Some c.in_ok-slot.slot = sym (root-child c.args.array.base.now c.args.array.check.now c.args.array.is_array c.args.word) ∙ sym c.in_ok-slot.ensures in
    stepped c.args.array.base.now c.args.array.check.now c.args.array.is_array c.args.carried c.args.backoffs.now c.requires c.args.word c.in_ok-slot.slot k w e c.in_ok-walked.walked c.last_node.new.backoffs (c.in_ok-walked.ensures (held_in c.args.carried c.args.backoffs.now) c.args.word (c.in_ok-reached.ensures.reached c.args.word k)) c.answered.result c.answered.ensures
