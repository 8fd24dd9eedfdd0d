use Rattle.std.proofs.Common.{◌≡◌, ℕ, ◌≤◌, length, get_or, pos}
use Rattle.slot_numbers.proofs.note_numbers.Given as goal

abbrev pub invariant-loop-k : goal.invariant-loop-k
invariant-loop-k l = (x : ℕ) → x ≤ length l.work → get_or l.notes x (pos 0) ≡ pos 0
