-- What the check leaves open in `c_scoring::run_from`: a slice of another length than nine. Assumes nothing.
use Rattle.c_scoring.proofs.Crossing.{run_wrong_length}
use Rattle.c_scoring.proofs.run_from.Goals as goal

pub returns-then-state-ne-STATE_LENGTH-clause-outcome : goal.returns-then-state-ne-STATE_LENGTH-clause-outcome
returns-then-state-ne-STATE_LENGTH-clause-outcome c = run_wrong_length _ _ c.if-state-ne-STATE_LENGTH.true c.from.ensures _ c.from-then-state-ne-STATE_LENGTH.ensures
