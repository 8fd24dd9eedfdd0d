-- As many turns as were made lead up from slot t to slot s, which is not the root's.
use Rattle.std.proofs.Common.{◌<◌, length, ◌≢◌}
use Rattle.array_nodes.proofs.Climb.{Rise}
use Rattle.array_nodes.proofs.is_node.Given as goal

abbrev pub invariant-loop : goal.invariant-loop
invariant-loop l = (l.s ≢ 0) × (l.s < length l.array.check.now) × Rise l.array.base.now l.array.check.now l.t l.s l.counter
