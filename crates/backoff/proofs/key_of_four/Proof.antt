-- `backoff::key_of_four` meets its contract. Assumes nothing.
use native.Mathlib.Omega.{arith}
use borrow.Author.Rules.{rules}
use Rattle.backoff.specs.Words.{key}
use Rattle.backoff.proofs.key_of_four.Statement.{statement}
use Rattle.backoff.proofs.key_of_four.Tie as tie

mul-result : tie.Need-overflow_mul-result
mul-result c = search rules

add-result : tie.Need-overflow_add-result
add-result c = search rules

mul-result-2 : tie.Need-overflow_mul-result-2
mul-result-2 c = search rules

add-result-2 : tie.Need-overflow_add-result-2
add-result-2 c = search rules

mul-result-3 : tie.Need-overflow_mul-result-3
mul-result-3 c = search rules

add-result-3 : tie.Need-overflow_add-result-3
add-result-3 c = search rules

returns : tie.Need-returns
unfolding key
returns c = omega arith

pub key_of_four_spec : {M : Type 1} → statement M
key_of_four_spec =
    tie.close
    (tie.spec
    mul-result
    add-result
    mul-result-2
    add-result-2
    mul-result-3
    add-result-3
    returns)
