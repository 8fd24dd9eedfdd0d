-- The search for the first character that is no space, and how a number is read by its first character. Assumes nothing.
use Rattle.std.specs.declared.option.Option.TheVariants.{None}
use mathlib.Core.Path.{◌≡◌, refl}
use mathlib.Core.List.{List, [], ◌∷◌}
use Prim.Native.Nat.{ℕ, ◌+◌, ◌≤◌, ◌<◌}
use native.Mathlib.Omega.{arith}
use lib.ListN.{length, get_or, drop}
use borrow.Author.Tests.{eq-eqb, ne_eqb}
use native.Mathlib.Numerals.{one-add}
use lib.Dec.{eqb}
use mathlib.Core.Bool.{Bool, true, false, not, cond}
use Rattle.std.specs.List.{position_or_len}
use Rattle.columns.specs.Columns.{without_spaces, read_natural, read_negative, read_numeral}

-- the first character that is no space is the first that is left
pub without_position : (text : List ℕ) → without_spaces text ≡ drop (position_or_len (λ (c : ℕ). not (eqb c 32)) text) text
unfolding without_spaces
without_position [] = refl
without_position (c ∷ text) = go (eqb c 32) (without_position text)
  where
    go : (t : Bool) → without_spaces text ≡ drop (position_or_len (λ (d : ℕ). not (eqb d 32)) text) text
        → cond t (without_spaces text) (c ∷ text) ≡ drop (cond (not (not t)) (1 + position_or_len (λ (d : ℕ). not (eqb d 32)) text) 0) (c ∷ text)
    go true e = rw (one-add (position_or_len (λ (d : ℕ). not (eqb d 32)) text)) e
    go false e = refl

-- ---- by the first character

pub numeral_none : (text : List ℕ) → length text < 1 → None ≡ read_numeral text
unfolding read_numeral
numeral_none [] h = refl
numeral_none (c ∷ text) h = absurd (omega arith)

pub numeral_minus : (text : List ℕ) → 1 ≤ length text → get_or text 0 0 ≡ 45 → read_negative (drop 1 text) ≡ read_numeral text
unfolding read_numeral
numeral_minus [] h e = absurd (omega arith)
numeral_minus (c ∷ text) h e = rw (eq-eqb c 45 e) refl

pub numeral_other : (text : List ℕ) → 1 ≤ length text → (get_or text 0 0 ≡ 45 → ⊥) → read_natural text ≡ read_numeral text
unfolding read_numeral
numeral_other [] h e = absurd (omega arith)
numeral_other (c ∷ text) h e = rw (ne_eqb c 45 e) refl
