-- What is left to write. Assumes nothing.
use Rattle.std.proofs.Common.{◌≡◌, ◌+◌, ◌*◌, set, length, drop}
use lib.Seq.{sets}
use Rattle.word_index.proofs.write_record.Given as goal

abbrev pub invariant-loop-i : goal.invariant-loop-i
invariant-loop-i l = (length l.store ≡ length l.fn.store) × (sets (set l.fn.store (64 * l.k) (length l.text)) (64 * l.k + 1) l.text ≡ sets l.store (64 * l.k + 1 + l.i) (drop l.i l.text))
