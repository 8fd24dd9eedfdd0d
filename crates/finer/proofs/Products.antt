-- Laws of products with a natural number, and of lists of them. Assumes nothing.
use mathlib.Core.Path.{◌≡◌, refl, sym, ap, ◌∙◌}
use mathlib.Core.Bool.{false}
use mathlib.Core.List.{List, [], ◌∷◌, ◌++◌, map}
use Prim.Native.Nat.{ℕ, zero, suc, ◌*◌, ◌<◌}
use native.Mathlib.Omega.{arith}
use lib.Dec.{eqb-suc-zero}
use lib.ListN.{drop}
use borrow.Author.Tests.{ne_eqb}
use lib.IntN.{ℤ, pos, negsuc, ◌+ℤ◌, *ℤ-zero}
use Rattle.integer.specs.Integer.{eq_z, sum}
use Rattle.integer.proofs.Arithmetic.{zarith, add, mul}
use Rattle.finer.specs.Times.{times}

pub times_zero : (k : ℕ) → times k (pos 0) ≡ pos 0
times_zero k = *ℤ-zero (pos k)

pub times_add : (k : ℕ) (a b : ℤ) → times k (a +ℤ b) ≡ times k a +ℤ times k b
times_add k a b =
    let e = ap (λ (n : ℕ). k * n) (add a b) in
    omega (zarith, e, mul k (a +ℤ b), mul k a, mul k b, add (times k a) (times k b))

-- a product is 0 only where the number is
pub times_none : (k : ℕ) → 0 < k → (z : ℤ) → eq_z (times k z) (pos 0) ≡ eq_z z (pos 0)
times_none zero h z = absurd (omega arith)
times_none (suc k) h (pos zero) = ap (λ (y : ℤ). eq_z y (pos 0)) (times_zero (suc k))
times_none (suc k) h (pos (suc n)) = ne_eqb (suc k * suc n) 0 (λ e. omega arith) ∙ sym (eqb-suc-zero n)
times_none (suc k) h (negsuc n) = let e : eq_z (times (suc k) (negsuc n)) (pos 0) ≡ false = omega (zarith, mul (suc k) (negsuc n)) in e

pub sum-times : (k : ℕ) (zs : List ℤ) → sum (map (times k) zs) ≡ times k (sum zs)
sum-times k [] = sym (times_zero k)
sum-times k (z ∷ zs) = ap (λ (y : ℤ). times k z +ℤ y) (sum-times k zs) ∙ sym (times_add k z (sum zs))

pub drop-map : {A B : Type 0} (f : A → B) (j : ℕ) (l : List A) → drop j (map f l) ≡ map f (drop j l)
drop-map f zero l = refl
drop-map f (suc j) [] = refl
drop-map f (suc j) (x ∷ l) = drop-map f j l

pub map-append : {A B : Type 0} (f : A → B) (l m : List A) → map f (l ++ m) ≡ map f l ++ map f m
map-append f [] m = refl
map-append {B = B} f (x ∷ l) m = ap (λ (r : List B). f x ∷ r) (map-append f l m)
