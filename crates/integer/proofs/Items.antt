-- The items of a list by their place: within the list one does not depend on the default, and they are its members. Assumes nothing.
use mathlib.Core.Path.{◌≡◌, refl, sym}
use mathlib.Core.List.{List, [], ◌∷◌, Memᴰ}
use Prim.Native.Nat.{ℕ, zero, suc, ◌<◌}
use native.Mathlib.Omega.{arith}
use lib.ListN.{length, get_or}

module _ {A : Type 0} where
  pub get_or-inside : (l : List A) (i : ℕ) (d e : A) → i < length l → get_or l i d ≡ get_or l i e
  get_or-inside [] i d e h = absurd (omega arith)
  get_or-inside (x ∷ l) zero d e h = refl
  get_or-inside (x ∷ l) (suc i) d e h = get_or-inside l i d e (omega arith)

  pub get_or_in : (l : List A) (i : ℕ) (d : A) → i < length l → Memᴰ (get_or l i d) l
  get_or_in [] i d h = absurd (omega arith)
  get_or_in (x ∷ l) zero d h = Memᴰ.head refl
  get_or_in (x ∷ l) (suc i) d h = Memᴰ.tail (get_or_in l i d (omega arith))

  pub in_get_or : (l : List A) (d a : A) → Memᴰ a l → (i : ℕ) × (i < length l) × (get_or l i d ≡ a)
  in_get_or [] d a h = elim h [ ]
  in_get_or (x ∷ l) d a (Memᴰ.head e) = (0, omega arith, sym e)
  in_get_or (x ∷ l) d a (Memᴰ.tail m) =
      let r = in_get_or l d a m in
      (suc r.0, omega (arith, r.1), r.2)
