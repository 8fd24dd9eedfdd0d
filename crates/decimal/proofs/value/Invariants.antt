-- `decimal::value`: the number so far and what is left make the whole number, and what is left are digits.
use Rattle.std.proofs.Common.{◌≡◌, true, ◌^◌, ◌<◌, drop}
use Rattle.decimal.specs.Digits.{all_digits, value_from}
use Rattle.decimal.proofs.value.Given as goal

abbrev pub invariant-loop-c : goal.invariant-loop-c
invariant-loop-c l = record {
  left : value_from 0 l.text ≡ value_from l.sum (drop l.c-index l.text);
  all : all_digits (drop l.c-index l.text) ≡ true;
  small : l.sum < 10 ^ l.c-index;
}
