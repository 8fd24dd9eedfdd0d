-- No row passed needs a row whose p is out of range.
use Rattle.std.proofs.Common.{◌≡◌, ℕ, ◌<◌}
use Rattle.row_ends.specs.Needed.{needed_fault}
use Rattle.row_ends.proofs.first_needing.Given as goal

abbrev pub invariant-loop-i : goal.invariant-loop-i
invariant-loop-i l = (j : ℕ) → j < l.i → needed_fault l.table j ≡ 0
