use Rattle.std.specs.declared.option.Option.TheVariants.{Some}
use Rattle.std.proofs.Common.{◌≡◌, sym, ◌∙◌, arith}
use Rattle.child_slots.specs.Children.{child_at}
use Rattle.child_slots.proofs.Children.{child-inside}
use Rattle.double_array.specs.DoubleArray.{order_in}
use Rattle.double_array.proofs.DoubleArray.{opened-sizes, opened-head, root-child}
use Rattle.backoff.specs.Limits.{start_word}
use Rattle.backoff.specs.State.{empty}
use Rattle.word_step.proofs.Beginning.{nothing, nothing-carries}
use Rattle.word_step.proofs.Stepping.{missing_refused, refused, answerable, walk_refused, stepped}
use Rattle.word_step.proofs.begin.Goals as goal

pub replaced-word-requires : goal.replaced-word-requires
replaced-word-requires c = (opened-head c.args.array.base.now c.args.array.check.now c.args.array.is_array).root-check

pub root_child-requires : goal.root_child-requires
root_child-requires c = (opened-head c.args.array.base.now c.args.array.check.now c.args.array.is_array).root-check

pub returns-in_err-slot : goal.returns-in_err-slot
returns-in_err-slot c = rw c.from_residual.ensures (refused (missing_refused c.args.array.base.now c.args.array.check.now c.args.array.is_array start_word c.replaced-word.result c.replaced-word.ensures empty (sym c.in_err-slot.ensures)))

pub walk_alone-requires-clause-slot_in_bounds : goal.walk_alone-requires-clause-slot_in_bounds
walk_alone-requires-clause-slot_in_bounds c =
    let k : child_at c.args.array.base.now c.args.array.check.now 0 c.replaced-word.result ≡ Some c.in_ok-slot.slot = sym (root-child c.args.array.base.now c.args.array.check.now c.args.array.is_array c.replaced-word.result) ∙ sym c.in_ok-slot.ensures in
    omega (arith, child-inside c.args.array.base.now c.args.array.check.now 0 c.replaced-word.result c.in_ok-slot.slot k, (opened-sizes c.args.array.base.now c.args.array.check.now c.args.array.is_array).same)

pub returns-in_err-walked : goal.returns-in_err-walked
returns-in_err-walked c =
    let k : child_at c.args.array.base.now c.args.array.check.now 0 c.replaced-word.result ≡ Some c.in_ok-slot.slot = sym (root-child c.args.array.base.now c.args.array.check.now c.args.array.is_array c.replaced-word.result) ∙ sym c.in_ok-slot.ensures in
    let held = nothing-carries (order_in c.args.array.check.now) c.args.backoffs.now c.requires in
    rw c.from_residual-in_err-walked.ensures (walk_refused c.args.array.base.now c.args.array.check.now c.args.array.is_array nothing c.args.backoffs.now held c.replaced-word.result c.in_ok-slot.slot k (order_in c.args.array.check.now) start_word c.replaced-word.ensures c.walk_alone.new.backoffs (c.in_err-walked.ensures c.replaced-word.result k))

pub answered-requires : goal.answered-requires
answered-requires c =
    let k : child_at c.args.array.base.now c.args.array.check.now 0 c.replaced-word.result ≡ Some c.in_ok-slot.slot = sym (root-child c.args.array.base.now c.args.array.check.now c.args.array.is_array c.replaced-word.result) ∙ sym c.in_ok-slot.ensures in
    let held = nothing-carries (order_in c.args.array.check.now) c.args.backoffs.now c.requires in
    answerable c.args.array.base.now c.args.array.check.now c.args.array.is_array nothing c.args.backoffs.now held c.replaced-word.result c.in_ok-slot.slot k c.in_ok-walked.walked c.walk_alone.new.backoffs (c.in_ok-walked.ensures c.replaced-word.result k)

pub returns : goal.returns
returns c =
    let k : child_at c.args.array.base.now c.args.array.check.now 0 c.replaced-word.result ≡ Some c.in_ok-slot.slot = sym (root-child c.args.array.base.now c.args.array.check.now c.args.array.is_array c.replaced-word.result) ∙ sym c.in_ok-slot.ensures in
    let held = nothing-carries (order_in c.args.array.check.now) c.args.backoffs.now c.requires in
    stepped c.args.array.base.now c.args.array.check.now c.args.array.is_array nothing c.args.backoffs.now held c.replaced-word.result c.in_ok-slot.slot k start_word c.replaced-word.ensures c.in_ok-walked.walked c.walk_alone.new.backoffs (c.in_ok-walked.ensures c.replaced-word.result k) c.answered.result c.answered.ensures
