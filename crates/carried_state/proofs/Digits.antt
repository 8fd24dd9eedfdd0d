-- Words as the digits of one number: a word more, a word less, and the digits of a key are its words. Assumes nothing.
use mathlib.Core.Path.{◌≡◌, refl, sym, ap, ap₂, ◌∙◌}
use mathlib.Core.Bool.{true}
use mathlib.Core.List.{List, [], ◌∷◌, map}
use Prim.Native.Nat.{ℕ, zero, suc, ◌+◌, ◌*◌, ◌/◌, ◌%◌, ◌≤◌, ◌<◌}
use native.Mathlib.Omega.{arith}
use lib.ListN.{length, take, get_or}
use lib.IntN.{ℤ, pos, nat_abs}
use Rattle.integer.specs.Integer.{between}
use Rattle.integer.proofs.Arithmetic.{zarith, abs}
use Rattle.integer.proofs.Ranges.{and_left, and_right, between-low, between-high}
use Rattle.backoff.specs.Limits.{word_limit}
use Rattle.backoff.specs.Words.{radix, three_digits, key}
use Rattle.backoff.specs.NineNumbers.{all}
use Rattle.carried_state.specs.Packed.{digits, pushed}

pub length_digits : (k n : ℕ) → length (digits k n) ≡ k
unfolding digits
length_digits zero n = refl
length_digits (suc k) n = ap suc (length_digits k (n / radix))

-- n without its i lowest digits
abbrev pub drop_digits : ℕ → ℕ → ℕ
drop_digits zero n = n
drop_digits (suc i) n = drop_digits i n / radix

drop-first_digit : (i n : ℕ) → drop_digits i (n / radix) ≡ drop_digits i n / radix
drop-first_digit zero n = refl
drop-first_digit (suc i) n = ap (λ (m : ℕ). m / radix) (drop-first_digit i n)

pub digit_at : (k i n : ℕ) → i < k → drop_digits i n % radix ≡ get_or (digits k n) i 0
unfolding digits
digit_at zero i n h = absurd (omega arith)
digit_at (suc k) zero n h = refl
digit_at (suc k) (suc i) n h = ap (λ (m : ℕ). m % radix) (sym (drop-first_digit i n)) ∙ digit_at k i (n / radix) (omega arith)

low_digit : (w n : ℕ) → w < radix → (w + radix * n) % radix ≡ w
low_digit w n h = omega arith

high-digits : (w n : ℕ) → w < radix → (w + radix * n) / radix ≡ n
high-digits w n h = omega arith

-- what is added above the lowest digit does not change it
module _ (n m q : ℕ) (e : n ≡ m + radix * q) where
  split : n ≡ m % radix + radix * (m / radix + q)
  split = omega arith

  same_low : n % radix ≡ m % radix
  same_low = ap (λ (k : ℕ). k % radix) split ∙ low_digit (m % radix) (m / radix + q) (omega arith)

  same-high : n / radix ≡ m / radix + q
  same-high = ap (λ (k : ℕ). k / radix) split ∙ high-digits (m % radix) (m / radix + q) (omega arith)

pub digits-pushed : (w n : ℕ) → w < radix → digits 4 (pushed w n) ≡ w ∷ take 3 (digits 4 n)
unfolding digits
digits-pushed w n h =
    let e : n ≡ m + radix * (radix * (radix * q)) = omega arith in
    let f : n / radix ≡ m / radix + radix * (radix * q) = same-high n m (radix * (radix * q)) e in
    let g : n / radix / radix ≡ m / radix / radix + radix * q = same-high (n / radix) (m / radix) (radix * q) f in
    let a : pushed w n % radix ≡ w = omega arith in
    let b : pushed w n / radix ≡ m = omega arith in
    rw (a, b, same_low n m (radix * (radix * q)) e, same_low (n / radix) (m / radix) (radix * q) f, same_low (n / radix / radix) (m / radix / radix) q g)
  where
    m : ℕ
    m = n % three_digits

    q : ℕ
    q = n / three_digits

-- words that are 0 or in range
pub digits-key : (zs : List ℤ) → all (map (between (pos 0) (pos word_limit)) zs) ≡ true → digits (length zs) (key (map nat_abs zs)) ≡ map nat_abs zs
unfolding digits key all
digits-key [] e = refl
digits-key (z ∷ zs) e =
    let b = and_left (between (pos 0) (pos word_limit) z) (all (map (between (pos 0) (pos word_limit)) zs)) e in
    let l = between-low (pos 0) (pos word_limit) z b in
    let u = between-high (pos 0) (pos word_limit) z b in
    let h : nat_abs z ≤ word_limit = omega (zarith, abs z) in
    ap₂ ◌∷◌ (low_digit (nat_abs z) (key (map nat_abs zs)) (omega arith)) (ap (digits (length zs)) (high-digits (nat_abs z) (key (map nat_abs zs)) (omega arith)) ∙ digits-key zs (and_right (between (pos 0) (pos word_limit) z) (all (map (between (pos 0) (pos word_limit)) zs)) e))
