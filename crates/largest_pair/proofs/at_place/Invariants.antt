-- The first blocks are looked at.
use Rattle.std.proofs.Common.{◌≡◌, ℕ, ◌*◌, ◌-◌, ◌≤◌, length}
use Rattle.largest_pair.specs.Inner.{KeptSoFar}
use Rattle.largest_pair.proofs.at_place.Given as goal

abbrev pub invariant-loop-block : goal.invariant-loop-block
invariant-loop-block l = record { number : ℕ; at : l.block ≡ number * (l.weight * l.count); within : l.block ≤ length l.totals; so_far : KeptSoFar l.totals l.count l.weight l.block l.kept }

abbrev pub decreases-loop-block : goal.decreases-loop-block
decreases-loop-block l = length l.totals - l.block
