-- Laws of a run of stores, `sets`: runs that follow each other, a store that stands aside, equal items, and a run over the whole list. Assumes nothing.
use mathlib.Core.Path.{◌≡◌, refl, ap, ◌∙◌}
use mathlib.Core.List.{List, [], ◌∷◌, ◌++◌, append-nil}
use Prim.Native.Nat.{ℕ, suc, ◌+◌, ◌-◌, ◌≤◌, ◌<◌}
use native.Mathlib.Omega.{arith}
use native.Mathlib.Numerals.{add-one}
use lib.ListN.{length, set, replicate, drop_of_length-le}
use lib.Seq.{sets, sets-eq, set_comm}

module _ {A : Type 0} where
  pub sets_append : (l : List A) (i : ℕ) (s t : List A) → sets l i (s ++ t) ≡ sets (sets l i s) (i + length s) t
  sets_append l i [] t = let e : i + 0 ≡ i = omega arith in rw e refl
  sets_append l i (a ∷ s) t =
      let e : suc i + length s ≡ i + suc (length s) = omega arith in
      sets_append (set l i a) (suc i) s t ∙ rw e refl

  -- a store behind a run
  set-behind : (l : List A) (i : ℕ) (s : List A) (a : A) → set (sets l i s) (i + length s) a ≡ sets (set l (i + length s) a) i s
  set-behind l i [] a = refl
  set-behind l i (b ∷ s) a =
      let e : suc i + length s ≡ i + suc (length s) = omega arith in
      rw (← e) (set-behind (set l i b) (suc i) s a ∙ ap (λ (k : List A). sets k (suc i) s) (set_comm l i (suc i + length s) b a (λ f. omega arith)))

  -- the last of a run is stored first
  pub sets_last : (l : List A) (i : ℕ) (s : List A) (a : A) → sets l i (s ++ (a ∷ [])) ≡ sets (set l (i + length s) a) i s
  sets_last l i s a = sets_append l i s (a ∷ []) ∙ set-behind l i s a

  -- a run of equal items that ends at w: the first of them is stored
  pub sets-replicate : (l : List A) (i : ℕ) (u w : ℕ) (a : A) → u < w → sets l i (replicate (w - u) a) ≡ sets (set l i a) (i + 1) (replicate (w - (u + 1)) a)
  sets-replicate l i u w a h =
      let e : w - u ≡ suc (w - (u + 1)) = omega arith in
      rw (e, add-one i) refl

  pub sets-none : (l : List A) (i : ℕ) (u w : ℕ) (a : A) → w ≤ u → sets l i (replicate (w - u) a) ≡ l
  sets-none l i u w a h = let e : w - u ≡ 0 = omega arith in rw e refl

  -- a run as long as the list leaves itself
  pub sets-whole : (old new : List A) → length new ≡ length old → sets old 0 new ≡ new
  sets-whole old new h =
      let e : 0 + length new ≡ length new = omega arith in
      sets-eq new old 0 (omega arith) ∙ rw (e, drop_of_length-le old {i = length new} (omega arith)) (append-nil new)
