use Rattle.std.proofs.Common.{refl}
use Rattle.carried_state.specs.Numbers.{numbers_of}
use Rattle.carried_state.proofs.StateDefault.default.Goals as goal

pub returns : goal.returns
unfolding numbers_of
returns c = refl
