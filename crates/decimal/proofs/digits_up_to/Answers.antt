-- `decimal::digits_up_to`: the range has the length exactly where the definition's bounds do.
use Rattle.std.proofs.Common.{arith}
use Rattle.std.proofs.lemmas.Bool.Decides.{nat_tests}
use Rattle.decimal.specs.Digits.{digits_up_to}
use Rattle.decimal.proofs.digits_up_to.Goals as goal

pub returns-then-contains : goal.returns-then-contains
unfolding digits_up_to
returns-then-contains c = grind (arith, nat_tests)

pub returns-else-contains : goal.returns-else-contains
unfolding digits_up_to
returns-else-contains c = grind (arith, nat_tests)
