-- Nine numbers as a state has them, read from a list and written to one. Assumes nothing.
use mathlib.Core.Path.{◌≡◌, refl, sym, ap, ap₂, ◌∙◌}
use mathlib.Core.List.{List, [], ◌∷◌, ◌++◌, append-nil}
use Prim.Native.Nat.{ℕ, zero, suc, ◌+◌, ◌-◌}
use native.Mathlib.Omega.{arith}
use lib.ListN.{length, get_or, drop, set, length-drop, drop_of_length-le}
use lib.Seq.{drop-cons}
use lib.IntN.{ℤ, pos}
use borrow.Rule.Slice.PartMut.{put_mid}

-- k items from place i on
abbrev pub items : ℕ → ℕ → List ℤ → List ℤ
items i zero l = []
items i (suc k) l = get_or l i (pos 0) ∷ items (suc i) k l

pub items-drop : (i k : ℕ) (l : List ℤ) → length l ≡ i + k → items i k l ≡ drop i l
items-drop i zero l e = sym (drop_of_length-le l {i = i} (omega arith))
items-drop i (suc k) l e = ap (λ (t : List ℤ). get_or l i (pos 0) ∷ t) (items-drop (suc i) k l (omega arith)) ∙ sym (drop-cons l i (pos 0) (omega arith))

equal_item : {a b : ℤ} {l m : List ℤ} → a ≡ b → l ≡ m → a ∷ l ≡ b ∷ m
equal_item p q = ap₂ (λ (a : ℤ) (l : List ℤ). a ∷ l) p q

pub equal_nine : {a b c d e f g h i a' b' c' d' e' f' g' h' i' : ℤ} → a ≡ a' → b ≡ b' → c ≡ c' → d ≡ d' → e ≡ e' → f ≡ f' → g ≡ g' → h ≡ h' → i ≡ i'
    → a ∷ b ∷ c ∷ d ∷ e ∷ f ∷ g ∷ h ∷ i ∷ [] ≡ a' ∷ b' ∷ c' ∷ d' ∷ e' ∷ f' ∷ g' ∷ h' ∷ i' ∷ []
equal_nine p q r s t u v w x = equal_item p (equal_item q (equal_item r (equal_item s (equal_item t (equal_item u (equal_item v (equal_item w (equal_item x refl))))))))

-- a count at the front of nine, four words behind it, and then the rest
pub stored : (l words backoffs : List ℤ) (count : ℤ) → length l ≡ 9 → length words ≡ 4 → put_mid 5 (length (put_mid 1 4 (set l 0 count) words) - 5) (put_mid 1 4 (set l 0 count) words) backoffs ≡ count ∷ (words ++ backoffs)
stored [] words backoffs count e f = absurd (omega arith)
stored (x ∷ t) (a ∷ b ∷ c ∷ d ∷ []) backoffs count e f =
    let n = length (count ∷ a ∷ b ∷ c ∷ d ∷ drop 4 t) - 5 in
    let nothing : drop n (drop 4 t) ≡ [] = drop_of_length-le (drop 4 t) {i = n} (omega (arith, length-drop 4 t)) in
    ap (λ (r : List ℤ). count ∷ a ∷ b ∷ c ∷ d ∷ (backoffs ++ r)) nothing ∙ ap (λ (r : List ℤ). count ∷ a ∷ b ∷ c ∷ d ∷ r) (append-nil backoffs)
stored (x ∷ t) [] backoffs count e f = absurd (omega arith)
stored (x ∷ t) (a ∷ []) backoffs count e f = absurd (omega arith)
stored (x ∷ t) (a ∷ b ∷ []) backoffs count e f = absurd (omega arith)
stored (x ∷ t) (a ∷ b ∷ c ∷ []) backoffs count e f = absurd (omega arith)
stored (x ∷ t) (a ∷ b ∷ c ∷ d ∷ y ∷ s) backoffs count e f = absurd (omega arith)
