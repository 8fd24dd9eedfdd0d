-- The parts of a text between equal bytes. A text is a list of bytes: 9 is a tab, 10 an LF, 32 a space. Assumes nothing.
use Rattle.std.specs.Prelude.{cond, List, [], ◌∷◌, ℕ, suc, eqb}

-- one more byte in front of the first part
abbrev pub in_front : ℕ → List (List ℕ) → List (List ℕ)
in_front x [] = (x ∷ []) ∷ []
in_front x (p ∷ ps) = (x ∷ p) ∷ ps

-- the parts before, between and behind the bytes c: always one more than there are such bytes
unfoldable pub parts : ℕ → List ℕ → List (List ℕ)
parts c [] = [] ∷ []
parts c (x ∷ text) = cond (eqb x c) ([] ∷ parts c text) (in_front x (parts c text))

-- how many bytes stand before the first c; all of them where there is none
unfoldable pub before : ℕ → List ℕ → ℕ
before c [] = 0
before c (x ∷ text) = cond (eqb x c) 0 (suc (before c text))
