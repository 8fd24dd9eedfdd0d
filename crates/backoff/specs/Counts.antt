-- What length bytes tell, and counting. Assumes nothing.
use Rattle.std.specs.Prelude.{Bool, cond, List, [], ◌∷◌, ℕ, ◌+◌, ◌/◌, ◌%◌, eqb}

-- "its matched length, plus 8 if unknown", and 16 where the matched row is extended: a matched length is at most 5
abbrev pub has_matched : ℕ → ℕ → Bool
has_matched k byte = eqb (byte % 8) k

abbrev pub says_unknown : ℕ → Bool
says_unknown byte = eqb (byte / 8 % 2) 1

-- how many numbers pass a test
unfoldable pub count : (ℕ → Bool) → List ℕ → ℕ
count P [] = 0
count P (n ∷ ns) = cond (P n) 1 0 + count P ns
