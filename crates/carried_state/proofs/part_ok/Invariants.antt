use Rattle.std.proofs.Common.{◌≡◌, ◌-◌, drop}
use Rattle.integer.specs.Integer.{between}
use Rattle.carried_state.specs.Packed.{part_ok}
use Rattle.carried_state.proofs.part_ok.Given as goal

-- what is left of the check is that of the items from the i-th on
abbrev pub invariant-loop-i : goal.invariant-loop-i
invariant-loop-i l = part_ok (between l.fn.low l.fn.high) l.fn.count l.fn.items ≡ part_ok (between l.fn.low l.fn.high) (l.fn.count - l.i) (drop l.i l.fn.items)
