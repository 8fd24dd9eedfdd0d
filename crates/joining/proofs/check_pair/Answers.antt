use Rattle.std.proofs.Common.{Bool, ◌<◌, ◌≤◌, ◌+◌, ap, cond, sym, ◌∙◌, arith}
use borrow.Author.Tests.{lt-ltb, le-ltb}
use Rattle.backoff.specs.Limits.{run_limit}
use Rattle.backoff.specs.Refusal.{Accepted, Refused, word_count}
use Rattle.run_answer.proofs.Refused.{err-is}
use Rattle.fragments.specs.Outcome.{fragment_in}
use Rattle.joining.specs.Inner.{first_bad}
use Rattle.joining.proofs.Faults.{bad_alone, none_bad}
use Rattle.joining.proofs.check_pair.Goals as goal

pub returns-in_err-check_fragments : goal.returns-in_err-check_fragments
returns-in_err-check_fragments c =
    rw (err-is c.from_residual.result c.in_err-check_fragments.field-0.0 c.from_residual.ensures.1)
    (bad_alone (first_bad c.args.order (fragment_in c.args.one) (fragment_in c.args.two)) (c.args.one.count + c.args.two.count) _ _ c.in_err-check_fragments.ensures)

pub returns-then-from : goal.returns-then-from
returns-then-from c =
    let many : run_limit < c.args.one.count + c.args.two.count = omega (arith, c.if-from.true, c.from.ensures, c.from-2.ensures) in
    rw c.from-then-from.ensures (sym (ap (λ (t : Bool). cond t (Refused word_count 0) Accepted) (lt-ltb run_limit (c.args.one.count + c.args.two.count) many)) ∙ none_bad (first_bad c.args.order (fragment_in c.args.one) (fragment_in c.args.two)) (c.args.one.count + c.args.two.count) c.in_ok-check_fragments.ensures)

pub returns : goal.returns
returns c =
    let few : c.args.one.count + c.args.two.count ≤ run_limit = omega (arith, c.if-from.false, c.from.ensures, c.from-2.ensures) in
    sym (ap (λ (t : Bool). cond t (Refused word_count 0) Accepted) (le-ltb run_limit (c.args.one.count + c.args.two.count) few)) ∙ none_bad (first_bad c.args.order (fragment_in c.args.one) (fragment_in c.args.two)) (c.args.one.count + c.args.two.count) c.in_ok-check_fragments.ensures
