-- Slices that are written from the front. Assumes nothing.
use mathlib.Core.Path.{◌≡◌, refl, ap}
use mathlib.Core.List.{List, [], ◌∷◌, ◌++◌}
use Prim.Native.Nat.{ℕ, zero, suc, ◌+◌, ◌<◌}
use native.Mathlib.Numerals.{add-one}
use native.Mathlib.Omega.{arith}
use lib.ListN.{length, drop, set, replicate}
use lib.Seq.{drop-set-lt}
use Rattle.backoff.specs.Run.{written}

module _ {A : Type 0} where
  fill_suc : (n : ℕ) (v : A) (l : List A) → n < length l → set (replicate n v ++ drop n l) n v ≡ replicate (suc n) v ++ drop (suc n) l
  fill_suc n v [] h = absurd (omega arith)
  fill_suc zero v (x ∷ l) h = refl
  fill_suc (suc n) v (x ∷ l) h = ap {B = List A} (λ t. v ∷ t) (fill_suc n v l (omega arith))

  -- one more item is v
  pub fill_more : (n : ℕ) (v : A) (l : List A) → n < length l → set (replicate n v ++ drop n l) n v ≡ replicate (n + 1) v ++ drop (n + 1) l
  fill_more n v l h = rw add-one (fill_suc n v l h)

  -- what is written from the front covers an item that was set before
  pub written-set : (v l : List A) (i : ℕ) (x : A) → i < length v → written v (set l i x) ≡ written v l
  unfolding written
  written-set v l i x h = ap {B = List A} (λ t. v ++ t) (drop-set-lt (length v) l i x h)
