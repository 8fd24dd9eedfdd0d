-- Runs of stores, `sets`, from the front of a buffer on, and what they leave in it. Assumes nothing.
use mathlib.Core.Path.{◌≡◌, refl, sym, ◌∙◌}
use mathlib.Core.List.{List, [], ◌∷◌, ◌++◌}
use Prim.Native.Nat.{ℕ, ◌+◌, ◌≤◌}
use native.Mathlib.Omega.{arith}
use lib.ListN.{length, set}
use lib.Seq.{sets, sets-eq}
use Rattle.integer.proofs.Stores.{sets_append}
use Rattle.backoff.specs.Run.{written}

module _ {A : Type 0} where
  pub sets_three : (l : List A) (i : ℕ) (s t u : List A) → sets l i (s ++ (t ++ u)) ≡ sets (sets (sets l i s) (i + length s) t) (i + length s + length t) u
  sets_three l i s t u = sets_append l i s (t ++ u) ∙ sets_append (sets l i s) (i + length s) t u

  -- runs from the front on, and one store behind them
  pub front-two : (l s t : List A) (a : A) → set (sets (sets l 0 s) (length s) t) (length s + length t) a ≡ sets l 0 (s ++ (t ++ (a ∷ [])))
  front-two l s t a =
      let e : 0 + length s ≡ length s = omega arith in
      sym (sets_three l 0 s t (a ∷ []) ∙ rw e refl)

  pub front_three : (l s t u : List A) (a : A) → set (sets (sets (sets l 0 s) (length s) t) (length s + length t) u) (length s + length t + length u) a ≡ sets l 0 (s ++ (t ++ (u ++ (a ∷ []))))
  front_three l s t u a =
      let e : 0 + length s ≡ length s = omega arith in
      sym (sets_append l 0 s (t ++ (u ++ (a ∷ []))) ∙ rw e (sets_three (sets l 0 s) (length s) t u (a ∷ [])))

  -- stores from the front on
  pub sets-written : (old new : List A) → length new ≤ length old → sets old 0 new ≡ written new old
  unfolding written
  sets-written old new h =
      let e : 0 + length new ≡ length new = omega arith in
      sets-eq new old 0 (omega arith) ∙ rw e refl
