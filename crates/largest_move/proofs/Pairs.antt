-- Two sentences of one length that are counted as differing at one place differ there alone. Assumes nothing.
use mathlib.Core.Path.{◌≡◌, refl, ap}
use mathlib.Core.Bool.{Bool, true, false}
use mathlib.Core.List.{List, [], ◌∷◌}
use Prim.Native.Nat.{ℕ, zero, suc, ◌+◌}
use native.Mathlib.Omega.{arith}
use lib.Dec.{eqb}
use lib.ListN.{length, get_or}
use borrow.Author.Tests.{eqb-true}
use Rattle.one_word.specs.OneWord.{DifferAt}
use Rattle.largest_move.specs.Pairs.{differing, one_apart}

nowhere : (s t : List ℕ) → length s ≡ length t → differing s t ≡ 0 → (j : ℕ) → get_or s j 0 ≡ get_or t j 0
unfolding differing
nowhere [] [] e d j = refl
nowhere [] (v ∷ t) e d j = absurd (omega arith)
nowhere (u ∷ s) [] e d j = absurd (omega arith)
nowhere (u ∷ s) (v ∷ t) e d j = go (eqb u v) refl (nowhere s t (omega arith)) j
  where
    go : (b : Bool) → eqb u v ≡ b → (differing s t ≡ 0 → (j : ℕ) → get_or s j 0 ≡ get_or t j 0) → (j : ℕ) → get_or (u ∷ s) j 0 ≡ get_or (v ∷ t) j 0
    go false q f j = absurd (let z : 1 + differing s t ≡ 0 = rw q at d in omega arith)
    go true q f zero = eqb-true u v q
    go true q f (suc j) = f (let z : 0 + differing s t ≡ 0 = rw q at d in omega arith) j

somewhere : (s t : List ℕ) → length s ≡ length t → differing s t ≡ 1 → (p : ℕ) × DifferAt p s t
unfolding differing
somewhere [] t e d = absurd (omega arith)
somewhere (u ∷ s) [] e d = absurd (omega arith)
somewhere (u ∷ s) (v ∷ t) e d = go (eqb u v) refl (somewhere s t (omega arith))
  where
    later : (p : ℕ) → DifferAt p s t → u ≡ v → DifferAt (suc p) (u ∷ s) (v ∷ t)
    later p f q = record { same_length = e; inside = omega (arith, f.inside); alike = each }
      where
        each : (j : ℕ) → (j ≡ suc p → ⊥) → get_or (u ∷ s) j 0 ≡ get_or (v ∷ t) j 0
        each zero n = q
        each (suc j) n = f.alike j (λ r. n (ap suc r))

    here : differing s t ≡ 0 → DifferAt 0 (u ∷ s) (v ∷ t)
    here z = record { same_length = e; inside = omega arith; alike = each }
      where
        each : (j : ℕ) → (j ≡ 0 → ⊥) → get_or (u ∷ s) j 0 ≡ get_or (v ∷ t) j 0
        each zero n = absurd (n refl)
        each (suc j) n = nowhere s t (omega arith) z j

    go : (b : Bool) → eqb u v ≡ b → (differing s t ≡ 1 → (p : ℕ) × DifferAt p s t) → (p : ℕ) × DifferAt p (u ∷ s) (v ∷ t)
    go true q f = let r = f (let z : 0 + differing s t ≡ 1 = rw q at d in omega arith) in (suc r.0, later r.0 r.1 (eqb-true u v q))
    go false q f = (0, here (let z : 1 + differing s t ≡ 1 = rw q at d in omega arith))

pub differ_at : (s t : List ℕ) → length s ≡ length t → one_apart s t ≡ true → (p : ℕ) × DifferAt p s t
unfolding one_apart
differ_at s t e d = somewhere s t e (eqb-true (differing s t) 1 d)
