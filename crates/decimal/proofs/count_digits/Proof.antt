-- `decimal::count_digits` meets its contract. The invariant: the digits counted and those of the rest, one of them twice, are all digits.
-- Assumes nothing.
use mathlib.Core.Path.{◌≡◌, ap}
use Prim.Native.Nat.{◌+◌}
use native.Mathlib.Omega.{arith}
use lib.ListN.{length}
use Rattle.decimal.specs.Digits.{digits}
use Rattle.decimal.proofs.Digits.{digits-one, digits_le, length-digits-more}
use Rattle.decimal.proofs.count_digits.Statement.{statement}
use Rattle.decimal.proofs.count_digits.Tie as tie

abbrev invariant-loop : tie.invariant-loop-rest
invariant-loop n rest₀ count₀ rest count = length (digits n) + 1 ≡ count + length (digits rest)

abbrev decreases-loop : tie.decreases-loop-rest
decreases-loop n rest₀ count₀ rest count = rest

loop-holds : tie.Need-loop-rest-init invariant-loop decreases-loop
loop-holds c = omega arith

add-count : tie.Need-overflow_add-count invariant-loop decreases-loop
add-count c = omega (arith, digits_le 19 c.before.before.args.n (omega arith))

loop-less : tie.Need-loop-rest-smaller invariant-loop decreases-loop
loop-less c = omega arith

loop-again : tie.Need-loop-rest-preserved invariant-loop decreases-loop
loop-again c = omega (arith, length-digits-more c.before.loop-rest.rest c.loop-rest-test.true)

returns : tie.Need-returns invariant-loop decreases-loop
returns c = omega (arith, ap length (digits-one c.before.loop-rest.rest c.loop-rest-test.false))

pub count_digits_spec : {M : Type 1} → statement M
count_digits_spec =
    tie.close (tie.spec
    invariant-loop
    decreases-loop
    loop-holds
    add-count
    loop-less
    loop-again
    returns)
