-- Two fragments that pass 21 and 14, once the second's kept words are scored twice: the sums fit, and the fragment that they make. Assumes nothing.
use mathlib.Core.Path.{◌≡◌, sym, ap₂, ◌∙◌}
use mathlib.Core.Bool.{Bool, true, false, cond}
use mathlib.Core.List.{List, ◌++◌}
use Prim.Native.Nat.{ℕ, ◌+◌, ◌*◌, ◌-◌, ◌≤◌, min}
use native.Mathlib.Omega.{arith}
use lib.ListN.{length, take, length-append, length-take}
use lib.IntN.{ℤ, nat_abs, ◌+ℤ◌, ◌-ℤ◌}
use mir.Syntax.{w64}
use mir.Val.{SFits, to_z, of_z}
use mir.Facts.{to_z-of_z}
use Rattle.integer.proofs.Arithmetic.{zarith, abs, add, sub}
use Rattle.backoff.specs.Limits.{order_limit, run_limit}
use Rattle.carried_state.specs.declared.State.{State}
use Rattle.carried_state.specs.Numbers.{numbers_of, state_from}
use Rattle.carried_state.proofs.Carried.{Four, state_from-numbers}
use Rattle.fragments.specs.declared.Fragment.{Fragment as Numbers}
use Rattle.fragments.specs.Outcome.{four_places, kept_in, fragment_in}
use Rattle.fragments.proofs.Check.{kept-words, total_bound}
use Rattle.fragments.proofs.Crossing.{length-kept_in, kept_in-within}
use Rattle.joining.specs.Inner.{most_points, Passed}

pub from-cond : (b : Bool) (s t : State) → Four s → Four t → cond b s t ≡ state_from (cond b (numbers_of s) (numbers_of t))
from-cond true s t f g = sym (state_from-numbers s f)
from-cond false s t f g = sym (state_from-numbers t g)

-- the sum as it is read back from its bits
pub sum_back : {t u l p : ℤ} → SFits w64 t → SFits w64 u → SFits w64 l → SFits w64 p → SFits w64 (t +ℤ u) → SFits w64 (t +ℤ u -ℤ l) → SFits w64 (t +ℤ u -ℤ l +ℤ p)
    → to_z w64 (of_z w64 (to_z w64 (of_z w64 (to_z w64 (of_z w64 (to_z w64 (of_z w64 t) +ℤ to_z w64 (of_z w64 u))) -ℤ to_z w64 (of_z w64 l))) +ℤ to_z w64 (of_z w64 p))) ≡ t +ℤ u -ℤ l +ℤ p
sum_back a b c d e f g = rw (to_z-of_z a, to_z-of_z b, to_z-of_z c, to_z-of_z d, to_z-of_z e, to_z-of_z f, to_z-of_z g)

-- no more words are kept than there are places
module _ (order : ℕ) (low : 1 ≤ order) (high : order ≤ order_limit) (one two : Numbers) (passed : Passed order (fragment_in one) (fragment_in two)) where
  kept-one : one.kept ≡ min (order - 1) one.count
  kept-one = sym (length-kept_in one.kept one.first) ∙ kept-words order (fragment_in one) passed.first

  kept-two : two.kept ≡ min (order - 1) two.count
  kept-two = sym (length-kept_in two.kept two.first) ∙ kept-words order (fragment_in two) passed.second

  pub within-one : length one.first ≡ 4 → one.kept ≤ length one.first
  within-one e = omega (arith, kept-one)

  pub within-two : length two.first ≡ 4 → two.kept ≤ length two.first
  within-two e = omega (arith, kept-two)

  pub kept-few : one.kept ≤ order - 1
  kept-few = omega (arith, kept-one)

  pub two-few : two.kept ≤ 4
  two-few = omega (arith, kept-two)

  pub kept-both : min (order - 1) (one.count + two.count) ≡ length (take (order - 1) (kept_in one.kept one.first ++ kept_in two.kept two.first))
  kept-both = omega (arith, length-take (order - 1) (kept_in one.kept one.first ++ kept_in two.kept two.first), length-append (kept_in one.kept one.first) (kept_in two.kept two.first), length-kept_in one.kept one.first, length-kept_in two.kept two.first, kept-one, kept-two)

  pub first-both : length one.first ≡ 4 → length two.first ≡ 4 → four_places (take (order - 1) (take one.kept one.first ++ take two.kept two.first)) ≡ four_places (take (order - 1) (kept_in one.kept one.first ++ kept_in two.kept two.first))
  first-both e f = ap₂ (λ (x y : List ℕ). four_places (take (order - 1) (x ++ y))) (sym (kept_in-within one.kept one.first (within-one e))) (sym (kept_in-within two.kept two.first (within-two f)))

  abbrev both : ℤ
  both = one.total +ℤ two.total

  -- both totals lie within what 21 and 14 leave
  bounds : (nat_abs one.total ≤ one.count * most_points) × ((nat_abs two.total ≤ two.count * most_points) × (one.count + two.count ≤ run_limit))
  bounds = (total_bound order (fragment_in one) passed.first high, (total_bound order (fragment_in two) passed.second high, passed.few))

  both_small : nat_abs both ≤ run_limit * most_points
  both_small = omega (arith, bounds, add one.total two.total, abs one.total, abs two.total, abs both)

  pub both_fit : SFits w64 both
  both_fit = omega (zarith, bounds, abs one.total, abs two.total)

  module _ (less plus : ℤ) (small : (nat_abs less ≤ 4 * most_points) × (nat_abs plus ≤ 4 * most_points)) where
    pub less_fits : SFits w64 (both -ℤ less)
    less_fits = omega (zarith, both_small, abs both, abs less, small)

    pub total-fits : SFits w64 (both -ℤ less +ℤ plus)
    total-fits = omega (zarith, both_small, abs both, sub both less, abs less, abs plus, small)
