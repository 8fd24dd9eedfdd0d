use Rattle.std.proofs.Common.{rules, sym, refl, arith}
use Rattle.backoff.specs.Refusal.{reason_number, array_head}
use Rattle.backoff.specs.Run.{Run, refused_run}
use Rattle.carried_state.specs.Numbers.{numbers_of}
use Rattle.carried_state.proofs.Carried.{Four, length-numbers}
use Rattle.double_array.specs.DoubleArray.{opened}
use Rattle.double_array.proofs.DoubleArray.{opened-none}
use Rattle.run_answer.specs.Answers.{answer_of}
use Rattle.score.proofs.Outcomes.{refused_early, passed-all}
use Rattle.run_answer.proofs.Refused.{refused-as, some-number}
use Rattle.score.proofs.Converted.{run-meaning}
use Rattle.score.proofs.run.Goals as goal

pub returns-in_err-array-clause-outcome : goal.returns-in_err-array-clause-outcome
unfolding refused_run
returns-in_err-array-clause-outcome c =
    let four : Four c.args.state = record { words = search rules; backoffs = search rules } in
    let asked : Run = record { words = c.args.words.now; points = c.args.points.now; lengths = c.args.lengths.now } in
    let e = c.in_err-array.ensures in
    rw (refused-as c.from_residual.result c.in_err-array.field-0.0 c.from_residual.ensures.1, e.0)
    (sym (refused_early (numbers_of c.args.state) (length-numbers c.args.state four) asked (opened c.args.base.now c.args.check.now) array_head (rw (opened-none c.args.base.now c.args.check.now e.1) refl) (λ z. omega arith)))

pub returns-in_err-array-clause-meaning : goal.returns-in_err-array-clause-meaning
returns-in_err-array-clause-meaning c = run-meaning c.args.base.now c.args.check.now (numbers_of c.args.state) (record { words = c.args.words.now; points = c.args.points.now; lengths = c.args.lengths.now }) (answer_of (numbers_of c.args.state) c.from_residual.result c.args.points.now c.args.lengths.now) (returns-in_err-array-clause-outcome c)

pub returns-in_err-check_run-clause-outcome : goal.returns-in_err-check_run-clause-outcome
unfolding refused_run
returns-in_err-check_run-clause-outcome c =
    let four : Four c.args.state = record { words = search rules; backoffs = search rules } in
    let asked : Run = record { words = c.args.words.now; points = c.args.points.now; lengths = c.args.lengths.now } in
    let o = c.in_ok-array.ensures in
    let e = rw (o.0, o.1) at c.in_err-check_run.ensures in
    rw (refused-as c.from_residual-in_err-check_run.result c.in_err-check_run.field-0.0 c.from_residual-in_err-check_run.ensures.1)
    (sym (refused_early (numbers_of c.args.state) (length-numbers c.args.state four) asked (opened c.args.base.now c.args.check.now) (reason_number c.in_err-check_run.field-0.0) e (some-number c.in_err-check_run.field-0.0)))

pub returns-in_err-check_run-clause-meaning : goal.returns-in_err-check_run-clause-meaning
returns-in_err-check_run-clause-meaning c = run-meaning c.args.base.now c.args.check.now (numbers_of c.args.state) (record { words = c.args.words.now; points = c.args.points.now; lengths = c.args.lengths.now }) (answer_of (numbers_of c.args.state) c.from_residual-in_err-check_run.result c.args.points.now c.args.lengths.now) (returns-in_err-check_run-clause-outcome c)

pub run_passed-requires-clause-state_value : goal.run_passed-requires-clause-state_value
run_passed-requires-clause-state_value c = (passed-all c.in_ok-array.array.base.now c.in_ok-array.array.check.now (numbers_of c.args.state) (record { words = c.args.words.now; points = c.args.points.now; lengths = c.args.lengths.now }) (sym c.in_ok-check_run.ensures)).state

pub returns-clause-outcome : goal.returns-clause-outcome
returns-clause-outcome c = let o = c.in_ok-array.ensures in rw (o.0, o.1) at c.run_passed.ensures

pub returns-clause-meaning : goal.returns-clause-meaning
returns-clause-meaning c = run-meaning c.args.base.now c.args.check.now (numbers_of c.args.state) (record { words = c.args.words.now; points = c.args.points.now; lengths = c.args.lengths.now }) (answer_of (numbers_of c.args.state) c.run_passed.result c.run_passed.new.points c.run_passed.new.lengths) (returns-clause-outcome c)
