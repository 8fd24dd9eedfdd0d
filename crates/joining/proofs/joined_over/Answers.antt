use Rattle.std.proofs.Common.{◌≡◌, true, List, ℕ, ℤ, ◌+◌, sym, ap, ◌∙◌, refl}
use Rattle.backoff.specs.Refusal.{Verdict, Accepted, array_head}
use Rattle.double_array.specs.DoubleArray.{is_array, order_in, store_in, opened}
use Rattle.double_array.proofs.DoubleArray.{opened_some, opened-none, opened-order}
use Rattle.run_answer.proofs.Refused.{err-is, refused-as}
use Rattle.fragments.specs.Fragment.{Fragment}
use Rattle.fragments.specs.Outcome.{fragment_in, crossed}
use Rattle.joining.specs.Inner.{first_bad, pair_fault, join_fault}
use Rattle.joining.specs.Outcome.{join_outcome}
use Rattle.joining.proofs.Faults.{fault_refuses, fault_passed, fault_none}
use Rattle.joining.proofs.joined_over.Goals as goal

-- what meets two fragments where 11 does not
opened-fault : (base check : List ℤ) → is_array base check ≡ true → (n : ℕ) → n ≡ order_in check → (one two : Fragment (List ℤ)) (v : Verdict) → v ≡ pair_fault (first_bad n one two) (one.count + two.count) → join_fault (opened base check) one two ≡ v
unfolding store_in
opened-fault base check a n e one two v q = rw (opened_some base check a) (sym (rw e at q))

pub returns-in_err-array : goal.returns-in_err-array
unfolding join_outcome
returns-in_err-array c =
    let base = c.args.base.now in
    let check = c.args.check.now in
    let e = c.in_err-array.ensures in
    rw (refused-as c.from_residual.result c.in_err-array.field-0.0 c.from_residual.ensures.1, e.0)
    (ap crossed (sym (fault_refuses (fragment_in c.args.one) (fragment_in c.args.two) (opened base check) array_head 0 (rw (opened-none base check e.1) refl))))

pub check_pair-requires : goal.check_pair-requires
check_pair-requires c =
    let r = c.in_ok-array.array in
    rw r.order_is (let o = opened-order r.base.now r.check.now r.is_array in (o.0, o.1))

pub returns-in_err-check_pair : goal.returns-in_err-check_pair
unfolding join_outcome
returns-in_err-check_pair c =
    let o = c.in_ok-array.ensures in
    let base = c.args.base.now in
    let check = c.args.check.now in
    let one = fragment_in c.args.one in
    let two = fragment_in c.args.two in
    let a = rw (o.0, o.1) at c.in_ok-array.array.is_array in
    let n : c.in_ok-array.array.order ≡ order_in check = rw o.1 at c.in_ok-array.array.order_is in
    rw (err-is c.from_residual-in_err-check_pair.result c.in_err-check_pair.field-0.0 c.from_residual-in_err-check_pair.ensures.1)
    (ap crossed (sym (fault_refuses one two (opened base check) _ _ (opened-fault base check a c.in_ok-array.array.order n one two _ c.in_err-check_pair.ensures))))

pub join_passed-requires : goal.join_passed-requires
join_passed-requires c =
    let r = c.in_ok-array.array in
    fault_passed (fragment_in c.args.one) (fragment_in c.args.two) r.base.now r.check.now (opened-fault r.base.now r.check.now r.is_array r.order r.order_is (fragment_in c.args.one) (fragment_in c.args.two) Accepted c.in_ok-check_pair.ensures)

pub returns : goal.returns
unfolding join_outcome
returns c =
    let o = c.in_ok-array.ensures in
    let base = c.args.base.now in
    let check = c.args.check.now in
    let one = fragment_in c.args.one in
    let two = fragment_in c.args.two in
    let a = rw (o.0, o.1) at c.in_ok-array.array.is_array in
    let n : c.in_ok-array.array.order ≡ order_in check = rw o.1 at c.in_ok-array.array.order_is in
    (rw (o.0, o.1) at c.join_passed.ensures)
    ∙ ap crossed (sym (fault_none one two base check (opened-fault base check a c.in_ok-array.array.order n one two Accepted c.in_ok-check_pair.ensures)))
