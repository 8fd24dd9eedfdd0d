-- The first groups of the block are looked at.
use Rattle.largest_pair.specs.Inner.{KeptSoFar}
use Rattle.largest_pair.proofs.with_block.Given as goal

abbrev pub invariant-loop-first : goal.invariant-loop-first
invariant-loop-first l = KeptSoFar l.totals l.count l.weight l.first l.kept
