-- The slots passed are without links, the others are as they were.
use Rattle.free_slots.specs.Chain.{plain_bases, plain_checks}
use Rattle.free_slots.proofs.Linking.{Passing}
use Rattle.free_slots.proofs.unlink.Given as goal

abbrev pub invariant-loop-t : goal.invariant-loop-t
invariant-loop-t l = Passing (plain_bases l.fn.base l.fn.check) l.fn.base l.base l.t × Passing (plain_checks l.fn.check) l.fn.check l.check l.t
