-- Lists without their first items, parts of their first items, and a list of no items. Assumes nothing.
use mathlib.Core.Path.{◌≡◌, refl, sym, ap, ◌∙◌}
use mathlib.Core.List.{List, [], ◌∷◌}
use Prim.Native.Nat.{ℕ, zero, suc, ◌+◌, ◌-◌, ◌≤◌}
use native.Mathlib.Omega.{arith}
use lib.ListN.{length, take, drop}
use lib.Seq.{take-nil, take-take, drop-drop}

pub drop-take : {A : Type 0} (j n : ℕ) (l : List A) → drop j (take n l) ≡ take (n - j) (drop j l)
drop-take zero n l = let e : n - 0 ≡ n = omega arith in rw e refl
drop-take (suc j) zero l = let e : 0 - suc j ≡ 0 = omega arith in rw e refl
drop-take (suc j) (suc n) [] = rw (take-nil (suc n - suc j))
drop-take (suc j) (suc n) (x ∷ l) = let e : suc n - suc j ≡ n - j = omega arith in rw e (drop-take j n l)

-- a part that lies within the first b items
pub front_part : {A : Type 0} (l : List A) (b a k : ℕ) → a + k ≤ b → take k (drop a (take b l)) ≡ take k (drop a l)
front_part l b a k h = ap (take k) (drop-take a b l) ∙ take-take k (b - a) (drop a l) (omega arith)

-- lists that agree from the i-th item on agree from any later one on
pub drop_more : {A : Type 0} (i k : ℕ) (l m : List A) → i ≤ k → drop i l ≡ drop i m → drop k l ≡ drop k m
drop_more i k l m h e =
    let q : i + (k - i) ≡ k = omega arith in
    rw (sym q) (sym (drop-drop (k - i) i l) ∙ ap (drop (k - i)) e ∙ drop-drop (k - i) i m)

pub no_items : {A : Type 0} (l : List A) → length l ≡ 0 → l ≡ []
no_items [] e = refl
no_items (x ∷ l) e = absurd (omega arith)
