use Rattle.std.proofs.Common.{◌≡◌}
use Rattle.carried_state.proofs.Parts.{cut_to}
use Rattle.carried_state.proofs.cut.Given as goal

-- the items before the i-th are cut
abbrev pub invariant-loop-i : goal.invariant-loop-i
invariant-loop-i l = l.part ≡ cut_to l.i l.kept l.initial.part
