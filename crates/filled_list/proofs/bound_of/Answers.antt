-- The hint changes where the search begins, and nothing else.
use Rattle.filled_list.proofs.Zeros.{bound_room}
use Rattle.filled_list.proofs.bound_of.Goals as goal

pub with_zeros-bound-requires : goal.with_zeros-bound-requires
with_zeros-bound-requires c = bound_room _ _ _ c.requires.1 c.requires.2 c.requires.3

pub returns : goal.returns
returns c = rw c.with_zeros-bound.ensures at c.first_from-row.ensures
