use Rattle.std.proofs.Common.{sym, ◌∙◌}
use Rattle.score.specs.Answers.{started_of}
use Rattle.score.proofs.Outcomes.{start-refused, start_steps}
use Rattle.run_answer.proofs.Refused.{refused-as}
use Rattle.score.proofs.Converted.{start-meaning}
use Rattle.score.proofs.start.Goals as goal

pub returns-in_err-array-clause-outcome : goal.returns-in_err-array-clause-outcome
returns-in_err-array-clause-outcome c =
    let e = c.in_err-array.ensures in
    rw (refused-as c.from_residual.result c.in_err-array.field-0.0 c.from_residual.ensures.1, e.0) (sym (start-refused c.args.base.now c.args.check.now e.1))

pub returns-in_err-array-clause-meaning : goal.returns-in_err-array-clause-meaning
returns-in_err-array-clause-meaning c = start-meaning c.args.base.now c.args.check.now (started_of c.from_residual.result) (returns-in_err-array-clause-outcome c)

pub returns-clause-outcome : goal.returns-clause-outcome
returns-clause-outcome c =
    let e = c.in_ok-array.ensures in
    let a = rw (e.0, e.1) at c.in_ok-array.array.is_array in
    let r = rw (e.0, e.1) at c.start_in.ensures in
    r ∙ sym (start_steps c.args.base.now c.args.check.now a)

pub returns-clause-meaning : goal.returns-clause-meaning
returns-clause-meaning c = start-meaning c.args.base.now c.args.check.now (started_of c.start_in.result) (returns-clause-outcome c)
