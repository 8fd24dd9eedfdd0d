-- Laws of splitting a text into lines. Assumes nothing.
use mathlib.Core.Path.{◌≡◌, refl, ap, ◌∙◌}
use mathlib.Core.Bool.{Bool, true, false}
use mathlib.Core.List.{List, [], ◌∷◌}
use Prim.Native.Nat.{ℕ, suc, ◌≤◌, ◌<◌}
use native.Mathlib.Omega.{arith}
use lib.Dec.{eqb}
use lib.ListN.{length, take, drop}
use Rattle.text_parts.specs.Parts.{before}
use Rattle.totals_list.specs.List.{ended, unended, longer, lines_of, line_end}

-- ---- where a line ends

pub line_end_le : (text : List ℕ) → line_end text ≤ length text
unfolding before
line_end_le [] = omega arith
line_end_le (c ∷ text) = go (line_end_le text) (eqb c 10) refl
  where
    go : line_end text ≤ length text → (b : Bool) → eqb c 10 ≡ b → line_end (c ∷ text) ≤ suc (length text)
    go ih true e = rw e (omega arith)
    go ih false e = rw e (omega arith)

-- ---- the first line

pub line_ended : (text : List ℕ) → line_end text < length text → lines_of text ≡ ended (take (line_end text) text) ∷ lines_of (drop (suc (line_end text)) text)
unfolding before lines_of
line_ended [] h = absurd (omega arith)
line_ended (c ∷ text) h = go (line_ended text) (eqb c 10) refl
  where
    go : (line_end text < length text → lines_of text ≡ ended (take (line_end text) text) ∷ lines_of (drop (suc (line_end text)) text)) → (b : Bool) → eqb c 10 ≡ b → lines_of (c ∷ text) ≡ ended (take (line_end (c ∷ text)) (c ∷ text)) ∷ lines_of (drop (suc (line_end (c ∷ text))) (c ∷ text))
    go ih true e = rw e refl
    go ih false e = let k : suc (line_end text) < suc (length text) = rw e at h in rw e (ap (longer c) (ih (omega arith)) ∙ (unfold longer in refl))

pub line_unended : (text : List ℕ) → line_end text ≡ length text → 0 < length text → lines_of text ≡ unended text ∷ []
unfolding before lines_of
line_unended [] e h = absurd (omega arith)
line_unended (c ∷ []) e h = go (eqb c 10) refl
  where
    go : (b : Bool) → eqb c 10 ≡ b → lines_of (c ∷ []) ≡ unended (c ∷ []) ∷ []
    go true q = let z : ◌≡◌ {A = ℕ} 0 1 = rw q at e in absurd (omega arith)
    go false q = rw q (unfold longer in refl)
line_unended (c ∷ d ∷ text) e h = go (line_unended (d ∷ text)) (eqb c 10) refl
  where
    go : (line_end (d ∷ text) ≡ length (d ∷ text) → 0 < length (d ∷ text) → lines_of (d ∷ text) ≡ unended (d ∷ text) ∷ []) → (b : Bool) → eqb c 10 ≡ b → lines_of (c ∷ d ∷ text) ≡ unended (c ∷ d ∷ text) ∷ []
    go ih true q = let z : 0 ≡ suc (suc (length text)) = rw q at e in absurd (omega arith)
    go ih false q = let k : suc (line_end (d ∷ text)) ≡ suc (suc (length text)) = rw q at e in rw q (ap (longer c) (ih (omega arith) (omega arith)) ∙ (unfold longer in refl))
