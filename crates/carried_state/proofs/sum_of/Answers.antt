-- Each back-off is small, so that each sum fits.
use Rattle.std.proofs.Common.{rules, ◌≡◌, true, List, [], ◌∷◌, map, length, ℕ, ℤ, pos, ◌+ℤ◌, neg_ℤ, ◌≤ℤ◌, get_or, arith, refl}
use Rattle.std.proofs.lemmas.Int.{ints}
use Rattle.integer.specs.Integer.{sum}
use Rattle.integer.proofs.Arithmetic.{zarith}
use Rattle.backoff.specs.Model.{in_backoff}
use Rattle.backoff.specs.NineNumbers.{all}
use Rattle.backoff.proofs.Sizes.{each-in_backoff, backoff-size}
use Rattle.carried_state.proofs.sum_of.Goals as goal

sum-four : (bs : List ℤ) → length bs ≡ 4 → sum bs ≡ get_or bs 0 (pos 0) +ℤ (get_or bs 1 (pos 0) +ℤ (get_or bs 2 (pos 0) +ℤ (get_or bs 3 (pos 0) +ℤ pos 0)))
sum-four [] h = absurd (omega arith)
sum-four (a ∷ []) h = absurd (omega arith)
sum-four (a ∷ b ∷ []) h = absurd (omega arith)
sum-four (a ∷ b ∷ c ∷ []) h = absurd (omega arith)
sum-four (a ∷ b ∷ c ∷ d ∷ []) h = refl
sum-four (a ∷ b ∷ c ∷ d ∷ e ∷ bs) h = absurd (omega arith)

small : (bs : List ℤ) (i : ℕ) → all (map in_backoff bs) ≡ true → (neg_ℤ (pos 99000000) ≤ℤ get_or bs i (pos 0)) × (get_or bs i (pos 0) ≤ℤ pos 99000000)
small bs i h = let s = backoff-size (get_or bs i (pos 0)) (each-in_backoff bs h i) in (omega zarith, omega zarith)

pub overflow_add-result : goal.overflow_add-result
overflow_add-result c =
    let b = small c.args.backoffs in
    omega (arith, ints, b 0 c.requires, b 1 c.requires)

pub overflow_add-result-2 : goal.overflow_add-result-2
overflow_add-result-2 c =
    let b = small c.args.backoffs in
    omega (arith, ints, b 0 c.requires, b 1 c.requires, b 2 c.requires)

pub overflow_add-result-3 : goal.overflow_add-result-3
overflow_add-result-3 c =
    let b = small c.args.backoffs in
    omega (arith, ints, b 0 c.requires, b 1 c.requires, b 2 c.requires, b 3 c.requires)

pub returns : goal.returns
returns c =
    let b = small c.args.backoffs in
    let four : length c.args.backoffs ≡ 4 = search rules in
    omega (arith, ints, b 0 c.requires, b 1 c.requires, b 2 c.requires, b 3 c.requires, sum-four c.args.backoffs four)
