-- `decimal::put_digits`: the digits of the rest, before those that are stored, make all digits.
use Rattle.std.proofs.Common.{◌≡◌, ◌+◌, length}
use Rattle.std.proofs.lemmas.List.Edits.{sets}
use Rattle.decimal.specs.Digits.{digits}
use Rattle.decimal.proofs.put_digits.Given as goal

abbrev pub invariant-loop-place : goal.invariant-loop-place
invariant-loop-place l = record {
  left : sets l.fn.out l.at (digits l.n) ≡ sets l.out l.at (digits l.rest);
  room : l.place ≡ l.at + length (digits l.rest);
}
