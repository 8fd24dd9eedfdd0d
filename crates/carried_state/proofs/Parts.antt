-- One part of a state, its four words or its four back-offs, as the loops over it have it: the part's check, and a part cut after its first items.
-- Assumes nothing.
use mathlib.Core.Path.{◌≡◌, refl, ap}
use mathlib.Core.Bool.{Bool, true, ◌&&◌, and_assoc}
use mathlib.Core.List.{List, [], ◌∷◌, map}
use Prim.Native.Nat.{ℕ, zero, suc, ◌+◌, ◌-◌, ◌≤◌, ◌<◌}
use native.Mathlib.Decide.{dec_le}
use native.Mathlib.Numerals.{add-one}
use native.Mathlib.Omega.{arith}
use lib.ListN.{length, take, drop, get_or, set, drop_of_length-le}
use lib.Seq.{drop-cons}
use lib.IntN.{ℤ, pos}
use Rattle.integer.specs.Integer.{eq_z}
use Rattle.backoff.specs.NineNumbers.{all, padded}
use Rattle.carried_state.specs.Packed.{part_ok}

-- ---- the check of a part: what is left of it from the i-th item on

module _ (P : ℤ → Bool) where
  part_used : (c : ℕ) (x : ℤ) (xs : List ℤ) → part_ok P (suc c) (x ∷ xs) ≡ (P x && part_ok P c xs)
  unfolding part_ok all
  part_used c x xs = and_assoc (P x) (all (map P (take c xs))) (all (map (eq_z (pos 0)) (drop c xs)))

  part_unused : (x : ℤ) (xs : List ℤ) → part_ok P 0 (x ∷ xs) ≡ (eq_z (pos 0) x && part_ok P 0 xs)
  unfolding part_ok all
  part_unused x xs = refl

  module _ (c i : ℕ) (xs : List ℤ) where
    -- t is the test of the i-th item, which is used or not
    pub part_on : (t : Bool) → (i < c → P (get_or xs i (pos 0)) ≡ t) → (c ≤ i → eq_z (pos 0) (get_or xs i (pos 0)) ≡ t) → i < length xs → part_ok P (c - i) (drop i xs) ≡ (t && part_ok P (c - (i + 1)) (drop (i + 1) xs))
    part_on t used unused k = go (dec_le c i)
      where
        go : Dec (c ≤ i) → part_ok P (c - i) (drop i xs) ≡ (t && part_ok P (c - (i + 1)) (drop (i + 1) xs))
        go (yes h) =
            let e : c - i ≡ 0 = omega arith in
            let f : c - (i + 1) ≡ 0 = omega arith in
            rw (e, f, add-one, drop-cons xs i (pos 0) k, part_unused (get_or xs i (pos 0)) (drop (suc i) xs), unused h)
        go (no n) =
            let e : c - i ≡ suc (c - (i + 1)) = omega arith in
            rw (e, add-one, drop-cons xs i (pos 0) k, part_used (c - suc i) (get_or xs i (pos 0)) (drop (suc i) xs), used (omega arith))

    pub part_done : length xs ≤ i → part_ok P (c - i) (drop i xs) ≡ true
    unfolding part_ok all
    part_done h = rw (drop_of_length-le xs h) (empty_part (c - i))
      where
        empty_part : (k : ℕ) → (all (map P (take k [])) && all (map (eq_z (pos 0)) (drop k []))) ≡ true
        empty_part zero = unfold all in refl
        empty_part (suc k) = unfold all in refl

-- ---- a part whose first i items are done, cut after its first k: the others are 0

abbrev pub cut_to : ℕ → ℕ → List ℤ → List ℤ
cut_to zero k xs = xs
cut_to (suc i) k [] = []
cut_to (suc i) zero (x ∷ xs) = pos 0 ∷ cut_to i zero xs
cut_to (suc i) (suc k) (x ∷ xs) = x ∷ cut_to i k xs

pub cut-kept : (i k : ℕ) (xs : List ℤ) → i < k → cut_to i k xs ≡ cut_to (suc i) k xs
cut-kept zero zero xs h = absurd (omega arith)
cut-kept zero (suc k) [] h = refl
cut-kept zero (suc k) (x ∷ xs) h = refl
cut-kept (suc i) zero xs h = absurd (omega arith)
cut-kept (suc i) (suc k) [] h = refl
cut-kept (suc i) (suc k) (x ∷ xs) h = ap (λ (l : List ℤ). x ∷ l) (cut-kept i k xs (omega arith))

pub cut-set : (i k : ℕ) (xs : List ℤ) → k ≤ i → i < length xs → set (cut_to i k xs) i (pos 0) ≡ cut_to (suc i) k xs
cut-set i k [] h l = absurd (omega arith)
cut-set zero zero (x ∷ xs) h l = refl
cut-set zero (suc k) (x ∷ xs) h l = absurd (omega arith)
cut-set (suc i) zero (x ∷ xs) h l = ap (λ (l : List ℤ). pos 0 ∷ l) (cut-set i zero xs (omega arith) (omega arith))
cut-set (suc i) (suc k) (x ∷ xs) h l = ap (λ (l : List ℤ). x ∷ l) (cut-set i k xs (omega arith) (omega arith))

-- all of them done, it is padded
pub cut-padded : (k : ℕ) (xs : List ℤ) → cut_to (length xs) k xs ≡ padded (length xs) (take k xs)
unfolding padded
cut-padded zero [] = refl
cut-padded (suc k) [] = refl
cut-padded zero (x ∷ xs) = ap (λ (l : List ℤ). pos 0 ∷ l) (cut-padded zero xs)
cut-padded (suc k) (x ∷ xs) = ap (λ (l : List ℤ). x ∷ l) (cut-padded k xs)

-- items past the m-th do not count
pub padded-within : (m k : ℕ) (xs : List ℤ) → padded m (take k (take m xs)) ≡ padded m (take k xs)
unfolding padded
padded-within zero k xs = refl
padded-within (suc m) zero xs = refl
padded-within (suc m) (suc k) [] = refl
padded-within (suc m) (suc k) (x ∷ xs) = ap (λ (l : List ℤ). x ∷ l) (padded-within m k xs)

pub first-four : (xs : List ℤ) → 4 ≤ length xs → get_or xs 0 (pos 0) ∷ get_or xs 1 (pos 0) ∷ get_or xs 2 (pos 0) ∷ get_or xs 3 (pos 0) ∷ [] ≡ take 4 xs
first-four [] h = absurd (omega arith)
first-four (a ∷ []) h = absurd (omega arith)
first-four (a ∷ b ∷ []) h = absurd (omega arith)
first-four (a ∷ b ∷ c ∷ []) h = absurd (omega arith)
first-four (a ∷ b ∷ c ∷ d ∷ xs) h = refl

-- as many items as are kept are cut by nothing
pub cut-none : (i k : ℕ) (xs : List ℤ) → i ≤ k → cut_to i k xs ≡ xs
cut-none zero k xs h = refl
cut-none (suc i) k [] h = refl
cut-none (suc i) zero (x ∷ xs) h = absurd (omega arith)
cut-none (suc i) (suc k) (x ∷ xs) h = ap (λ (l : List ℤ). x ∷ l) (cut-none i k xs (omega arith))

-- no item is left to be cut
pub cut-all : (i k : ℕ) (xs : List ℤ) → length xs ≤ i → cut_to i k xs ≡ cut_to (length xs) k xs
cut-all zero k [] h = refl
cut-all (suc i) k [] h = refl
cut-all zero k (x ∷ xs) h = absurd (omega arith)
cut-all (suc i) zero (x ∷ xs) h = ap (λ (l : List ℤ). pos 0 ∷ l) (cut-all i zero xs (omega arith))
cut-all (suc i) (suc k) (x ∷ xs) h = ap (λ (l : List ℤ). x ∷ l) (cut-all i k xs (omega arith))
