-- What the check leaves open in `c_scoring::start_into`: its answer is start's, whatever the slice held. Assumes nothing.
use borrow.Author.Rules.{rules}
use mathlib.Core.Path.{◌∙◌}
use Rattle.double_array.specs.DoubleArray.{opened}
use Rattle.c_scoring.proofs.Crossing.{start_wrong_length, start_crosses}
use Rattle.c_scoring.proofs.start_into.Goals as goal

pub returns-then-state-ne-STATE_LENGTH-clause-outcome : goal.returns-then-state-ne-STATE_LENGTH-clause-outcome
returns-then-state-ne-STATE_LENGTH-clause-outcome c = start_wrong_length _ _ c.if-state-ne-STATE_LENGTH.true c.from.ensures c.from-then-state-ne-STATE_LENGTH.ensures

pub returns-in-Ok-clause-outcome : goal.returns-in-Ok-clause-outcome
returns-in-Ok-clause-outcome c = start_crosses (opened c.args.base.now c.args.check.now) c.args.state.now (search rules) c.in-Ok.ensures.outcome c.from-in-Ok.ensures.number c.from-in-Ok.ensures.place c.store.ensures

pub returns-in-Err-clause-outcome : goal.returns-in-Err-clause-outcome
returns-in-Err-clause-outcome c = start_crosses (opened c.args.base.now c.args.check.now) c.args.state.now (search rules) c.in-Err.ensures.outcome c.from-in-Err.ensures.number c.from-in-Err.ensures.place (c.store-in-Err.ensures ∙ c.default.ensures)
