use Rattle.std.specs.declared.option.Option.TheVariants.{None}
use Rattle.std.specs.declared.option.Option.{Option}
use Rattle.std.specs.declared.result.Result.{Result}
use Rattle.std.specs.declared.result.Result.TheVariants.{Err}
use Rattle.std.specs.Option.{ok_or}
use Rattle.backoff.specs.declared.Reason.{Reason}
use Rattle.backoff.specs.declared.Reason.TheVariants.{BrokenNode}
use Rattle.joining.specs.declared.Rescored.{Rescored}
use Rattle.std.proofs.Common.{rules, ◌≡◌, ◌≤◌, length, take, sym, ap, arith}
use lib.ListN.{length-take}
use lib.Seq.{length-take-le}
use Rattle.backoff.specs.State.{empty}
use Rattle.backoff.specs.NineNumbers.{state_in}
use Rattle.backoff.specs.Store.{run_over}
use Rattle.backoff.proofs.NineNumbers.{state_ok_bounded}
use Rattle.double_array.specs.DoubleArray.{order_in, store_in}
use Rattle.double_array.proofs.DoubleArray.{opened-order}
use Rattle.carried_state.specs.Numbers.{numbers_of}
use Rattle.carried_state.proofs.Carried.{Four, length-numbers}
use Rattle.run_answer.proofs.Refused.{refused-as}
use Rattle.fragments.specs.Outcome.{kept_in, fragment_in, crossed}
use Rattle.fragments.proofs.Check.{end_ok}
use Rattle.fragments.proofs.Crossing.{kept_in-within}
use Rattle.joining.specs.Inner.{RescoredAs}
use Rattle.joining.proofs.Merging.{within-two, two-few}
use Rattle.joining.proofs.Rescoring.{totals_small, rescored_joined, rescored_refused}
use Rattle.joining.proofs.join_passed.Goals as goal

-- why a join is refused where a scoring is
reason-none : (o : Option Rescored) (x : Reason) → o ≡ None → ◌≡◌ {A = Result Rescored Reason} (Err x) (ok_or o BrokenNode) → x ≡ BrokenNode
reason-none o x e q = some-reason (rw e at q)
  where
    some-reason : ◌≡◌ {A = Result Rescored Reason} (Err x) (Err BrokenNode) → x ≡ BrokenNode
    some-reason z = cc

pub slice_bounds-words-end : goal.slice_bounds-words-end
slice_bounds-words-end c =
    let base = c.args.array.base.now in
    let check = c.args.array.check.now in
    let n = order_in check in
    let o = opened-order base check c.args.array.is_array in
    let one = c.args.one in
    let two = c.args.two in
    let four-two : length two.first ≡ 4 = search rules in
    let within = within-two n o.0 o.1 one two c.requires four-two in
    let few = two-few n o.0 o.1 one two c.requires in
    let words = take two.kept two.first in
    let words-few : length words ≤ 4 = omega (arith, length-take two.kept two.first, few) in
    let passes = end_ok n (fragment_in one) c.requires.first in
    within

pub slice_bounds-rescore-end : goal.slice_bounds-rescore-end
slice_bounds-rescore-end c =
    let base = c.args.array.base.now in
    let check = c.args.array.check.now in
    let n = order_in check in
    let o = opened-order base check c.args.array.is_array in
    let one = c.args.one in
    let two = c.args.two in
    let four-two : length two.first ≡ 4 = search rules in
    let within = within-two n o.0 o.1 one two c.requires four-two in
    let few = two-few n o.0 o.1 one two c.requires in
    let words = take two.kept two.first in
    let words-few : length words ≤ 4 = omega (arith, length-take two.kept two.first, few) in
    let passes = end_ok n (fragment_in one) c.requires.first in
    sym (length-take-le two.kept two.first within)

pub rescore-requires-clause-state_value : goal.rescore-requires-clause-state_value
rescore-requires-clause-state_value c =
    let base = c.args.array.base.now in
    let check = c.args.array.check.now in
    let n = order_in check in
    let o = opened-order base check c.args.array.is_array in
    let one = c.args.one in
    let two = c.args.two in
    let four-two : length two.first ≡ 4 = search rules in
    let within = within-two n o.0 o.1 one two c.requires four-two in
    let few = two-few n o.0 o.1 one two c.requires in
    let words = take two.kept two.first in
    let words-few : length words ≤ 4 = omega (arith, length-take two.kept two.first, few) in
    let passes = end_ok n (fragment_in one) c.requires.first in
    passes

pub rescore-requires-clause-words_len_bound : goal.rescore-requires-clause-words_len_bound
rescore-requires-clause-words_len_bound c =
    let base = c.args.array.base.now in
    let check = c.args.array.check.now in
    let n = order_in check in
    let o = opened-order base check c.args.array.is_array in
    let one = c.args.one in
    let two = c.args.two in
    let four-two : length two.first ≡ 4 = search rules in
    let within = within-two n o.0 o.1 one two c.requires four-two in
    let few = two-few n o.0 o.1 one two c.requires in
    let words = take two.kept two.first in
    let words-few : length words ≤ 4 = omega (arith, length-take two.kept two.first, few) in
    let passes = end_ok n (fragment_in one) c.requires.first in
    omega (arith, words-few)

pub returns-in_err-again : goal.returns-in_err-again
returns-in_err-again c =
    let base = c.args.array.base.now in
    let check = c.args.array.check.now in
    let n = order_in check in
    let o = opened-order base check c.args.array.is_array in
    let one = c.args.one in
    let two = c.args.two in
    let four-two : length two.first ≡ 4 = search rules in
    let within = within-two n o.0 o.1 one two c.requires four-two in
    let few = two-few n o.0 o.1 one two c.requires in
    let words = take two.kept two.first in
    let words-few : length words ≤ 4 = omega (arith, length-take two.kept two.first, few) in
    let passes = end_ok n (fragment_in one) c.requires.first in
    let alone = run_over (store_in base check) (kept_in two.kept two.first) empty 1 in
    let after = run_over (store_in base check) (kept_in two.kept two.first) (state_in (numbers_of one.state)) 1 in
    let again : RescoredAs alone after c.rescore.result = rw (kept_in-within two.kept two.first within) c.rescore.ensures in
    let none = rw c.in_err-again.ensures.ok_part at again in
    let r = reason-none c.rescore.result c.in_err-again.field-0.0 c.in_err-again.ensures.ok_part c.in_err-again.ensures.value in
    rw (refused-as c.from_residual.result c.in_err-again.field-0.0 c.from_residual.ensures.1, r) (ap crossed (sym (rescored_refused n (fragment_in one) (fragment_in two) alone after none)))

pub merge-requires-clause-le_order : goal.merge-requires-clause-le_order
merge-requires-clause-le_order c = rw c.args.array.order_is (let o = opened-order c.args.array.base.now c.args.array.check.now c.args.array.is_array in (o.0, o.1))

pub merge-requires-clause-passed : goal.merge-requires-clause-passed
merge-requires-clause-passed c = rw c.args.array.order_is c.requires

pub merge-requires-clause-less_bound : goal.merge-requires-clause-less_bound
merge-requires-clause-less_bound c =
    let base = c.args.array.base.now in
    let check = c.args.array.check.now in
    let n = order_in check in
    let o = opened-order base check c.args.array.is_array in
    let one = c.args.one in
    let two = c.args.two in
    let four-two : length two.first ≡ 4 = search rules in
    let within = within-two n o.0 o.1 one two c.requires four-two in
    let few = two-few n o.0 o.1 one two c.requires in
    let words = take two.kept two.first in
    let words-few : length words ≤ 4 = omega (arith, length-take two.kept two.first, few) in
    let passes = end_ok n (fragment_in one) c.requires.first in
    let four : Four one.state = record { words = search rules; backoffs = search rules } in
    let bounded = state_ok_bounded n (numbers_of one.state) (length-numbers one.state four) o.1 passes in
    let r = rw c.in_ok-again.ensures.ok_part at c.rescore.ensures in
    totals_small base check o.1 words words-few (state_in (numbers_of one.state)) bounded c.in_ok-again.again r

pub returns : goal.returns
returns c =
    let base = c.args.array.base.now in
    let check = c.args.array.check.now in
    let n = order_in check in
    let o = opened-order base check c.args.array.is_array in
    let one = c.args.one in
    let two = c.args.two in
    let four-two : length two.first ≡ 4 = search rules in
    let within = within-two n o.0 o.1 one two c.requires four-two in
    let few = two-few n o.0 o.1 one two c.requires in
    let words = take two.kept two.first in
    let words-few : length words ≤ 4 = omega (arith, length-take two.kept two.first, few) in
    let passes = end_ok n (fragment_in one) c.requires.first in
    let alone = run_over (store_in base check) (kept_in two.kept two.first) empty 1 in
    let after = run_over (store_in base check) (kept_in two.kept two.first) (state_in (numbers_of one.state)) 1 in
    let again : RescoredAs alone after c.rescore.result = rw (kept_in-within two.kept two.first within) c.rescore.ensures in
    let some = rw c.in_ok-again.ensures.ok_part at again in
    rw (c.merge.ensures, c.args.array.order_is) (ap crossed (sym (rescored_joined n (fragment_in one) (fragment_in two) c.in_ok-again.again alone after some)))
