-- The places behind this one are looked at.
use Rattle.std.proofs.Common.{◌^◌}
use Rattle.largest_pair.specs.Inner.{KeptSoFar}
use Rattle.largest_pair.proofs.largest_pair.Given as goal

abbrev pub invariant-loop-place : goal.invariant-loop-place
invariant-loop-place l = KeptSoFar l.totals l.count (l.count ^ l.place) 0 l.kept
