-- The lent back-offs while a word is walked: those of the nodes passed have taken the place of the state's; the sums of both, and how large they get. Assumes nothing.
use mathlib.Core.Path.{◌≡◌, refl, sym, ap, ◌∙◌}
use mathlib.Core.Bool.{Bool, true, false, cond}
use mathlib.Core.List.{List, [], ◌∷◌}
use Prim.Native.Nat.{ℕ, ◌+◌, ◌*◌, ◌≤◌, ◌<◌}
use native.Mathlib.Numerals.{add-one}
use native.Mathlib.Omega.{arith}
use lib.ListN.{length, take, drop, get_or, set, length-set}
use lib.Seq.{drop-cons, take-suc-set, take-set-le, drop-set-lt, length-take-le, get_or-take}
use lib.IntN.{ℤ, pos, nat_abs, ◌+ℤ◌, ◌-ℤ◌, +ℤ_idr}
use mir.Syntax.{w32, w64}
use mir.Val.{Fits, SFits}
use Rattle.integer.specs.Integer.{sum}
use Rattle.integer.proofs.Arithmetic.{zarith, abs, add, sub}
use Rattle.integer.proofs.Parts.{drop_more}
use Rattle.integer.proofs.Ranges.{between-low, between-high}
use Rattle.integer.proofs.Sums.{sum_append}
use Rattle.backoff.specs.Limits.{least_probability, largest_backoff}
use Rattle.backoff.specs.Model.{in_probability, in_backoff}
use Rattle.backoff.proofs.Sizes.{backoff-size}
use Rattle.carried_state.specs.Packed.{Owes}
use Rattle.word_walk.specs.declared.Kept.{Kept}

-- `given` is the array as the walk found it, the first `count` of it the state's back-offs; `backoffs` is the array now
pub record Owing (count : ℕ) (given : List ℤ) (passed : ℕ) (kept : Kept) (total owed : ℤ) (backoffs : List ℤ) : Type 0 where
  pub long : length backoffs ≡ length given
  pub rest : drop passed backoffs ≡ drop passed given
  pub owed-is : owed ≡ sum (drop passed (take count given))
  pub total-is : Owes passed total backoffs
  pub total_small : nat_abs total ≤ passed * largest_backoff
  pub kept-few : kept.count ≤ passed
  pub kept-owed : Owes kept.count kept.owed backoffs

pub owing_begins : (count : ℕ) (given : List ℤ) (owed : ℤ) → Owes count owed given → Owing count given 0 (record { count = 0; owed = pos 0 }) (pos 0) owed given
owing_begins count given owed e = record {
  long = refl;
  rest = refl;
  owed-is = e;
  total-is = refl;
  total_small = omega arith;
  kept-few = omega arith;
  kept-owed = refl;
}

-- a sum of few back-offs fits
pub size_fits : {n : ℕ} (z : ℤ) → nat_abs z ≤ n * largest_backoff → n ≤ 5 → SFits w32 z
size_fits z h k = omega (zarith, abs z)

-- a place among the state's back-offs, and the one behind it
pub below-five : {j k : ℕ} → j < k → k ≤ 4 → j < 5
below-five h k = omega arith

pub next_fits : {j : ℕ} → j < 5 → Fits w64 (j + 1)
next_fits h = omega arith

module _ (count : ℕ) (given : List ℤ) (passed : ℕ) (kept : Kept) (total owed : ℤ) (backoffs : List ℤ) (o : Owing count given passed kept total owed backoffs) (inside : passed < length given) where
  -- the next item is still the state's
  given_is : get_or backoffs passed (pos 0) ≡ get_or given passed (pos 0)
  given_is = ap (λ (l : List ℤ). get_or l 0 (pos 0)) (sym (drop-cons backoffs passed (pos 0) (omega (arith, o.long))) ∙ o.rest ∙ drop-cons given passed (pos 0) inside)

  -- the state's back-offs that are owed, one fewer
  pub owed_less : count ≤ length given → passed < count → owed -ℤ get_or backoffs passed (pos 0) ≡ sum (drop (passed + 1) (take count given))
  owed_less k h =
      let e : owed ≡ get_or backoffs passed (pos 0) +ℤ sum (drop (passed + 1) (take count given)) = o.owed-is ∙ ap sum (drop-cons (take count given) passed (pos 0) (omega (arith, length-take-le count given k))) ∙ rw (get_or-take count given passed (pos 0) h, given_is, add-one) in
      omega (zarith, add (get_or backoffs passed (pos 0)) (sum (drop (passed + 1) (take count given))), sub owed (get_or backoffs passed (pos 0)))

  module _ (b : ℤ) (in_backoff_lem : in_backoff b ≡ true) where
    pub total-more : nat_abs (total +ℤ b) ≤ (passed + 1) * largest_backoff
    total-more = let s = backoff-size b in_backoff_lem in omega (arith, add total b, abs total, abs b, abs (total +ℤ b), o.total_small)

    taken : Owes (passed + 1) (total +ℤ b) (set backoffs passed b)
    taken = rw (add-one, take-suc-set backoffs passed b (omega (arith, o.long)), o.total-is) (ap (λ (z : ℤ). sum (take passed backoffs) +ℤ z) (sym (+ℤ_idr b)) ∙ sym (sum_append (take passed backoffs) (b ∷ [])))

    -- the row that ends here, or what was kept before it
    abbrev kept_now : Bool → Kept
    kept_now t = cond t (record { count = passed + 1; owed = total +ℤ b }) kept

    now_few : (t : Bool) → (kept_now t).count ≤ passed + 1
    now_few true = omega arith
    now_few false = omega (arith, o.kept-few)

    pub now_owed : (t : Bool) → Owes (kept_now t).count (kept_now t).owed (set backoffs passed b)
    now_owed true = taken
    now_owed false = o.kept-owed ∙ ap sum (sym (take-set-le kept.count backoffs passed b o.kept-few))

    pub owing_on : count ≤ length given → passed < count → (t : Bool) → Owing count given (passed + 1) (kept_now t) (total +ℤ b) (owed -ℤ get_or backoffs passed (pos 0)) (set backoffs passed b)
    owing_on k h t = record {
      long = length-set backoffs passed b ∙ o.long;
      rest = drop-set-lt (passed + 1) backoffs passed b (omega arith) ∙ drop_more passed (passed + 1) backoffs given (omega arith) o.rest;
      owed-is = owed_less k h;
      total-is = taken;
      total_small = total-more;
      kept-few = now_few t;
      kept-owed = now_owed t;
    }

-- a row's p and what is owed
pub points_fit : (p owed : ℤ) → in_probability p ≡ true → nat_abs owed ≤ 4 * largest_backoff → SFits w32 (p +ℤ owed)
unfolding in_probability
points_fit p owed in_probability_lem small =
    let low = between-low least_probability (pos 0) p in_probability_lem in
    let high = between-high least_probability (pos 0) p in_probability_lem in
    omega (zarith, low, high, small, abs owed, add p owed)
