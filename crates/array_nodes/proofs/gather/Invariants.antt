-- The first k items are the nodes below slot t.
use Rattle.std.proofs.Common.{◌≤◌, length, take}
use Rattle.array_nodes.proofs.Gathering.{Below}
use Rattle.array_nodes.proofs.gather.Given as goal

abbrev pub invariant-loop-t : goal.invariant-loop-t
invariant-loop-t l = (l.k ≤ length l.work) × Below l.array.base.now l.array.check.now (take l.k l.work) l.t
