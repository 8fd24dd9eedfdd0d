-- The decimal digits of a number. Text is a list of bytes: 48 to 57 are the digits 0 to 9. Assumes nothing.
use Rattle.std.specs.Prelude.{Bool, true, false, cond, ◌&&◌, List, [], ◌∷◌, ◌++◌, ℕ, zero, suc, ◌+◌, ◌*◌, ◌-◌, ◌/◌, ◌%◌, eqb, ltb, leb, length}

-- the last decimal digits of n, at most so many
unfoldable pub digits_within : ℕ → ℕ → List ℕ
digits_within zero n = []
digits_within (suc most) n = cond (ltb n 10) ((48 + n) ∷ []) (digits_within most (n / 10) ++ ((48 + n % 10) ∷ []))

-- the decimal digits of n, with no zero in front. There are never more than n + 1
unfoldable pub digits : ℕ → List ℕ
digits n = digits_within (suc n) n

-- 63 bits hold every number of so many digits, and the code reads no more of them
abbrev pub most_digits : ℕ
most_digits = 18

unfoldable pub all_digits : List ℕ → Bool
all_digits [] = true
all_digits (c ∷ text) = (leb 48 c && leb c 57) && all_digits text

-- one digit at least, and no more than so many
unfoldable pub digits_up_to : ℕ → List ℕ → Bool
digits_up_to most text = leb 1 (length text) && (leb (length text) most && all_digits text)

-- digits, one at least, and the first is 0 only where it stands alone
unfoldable pub is_natural : List ℕ → Bool
is_natural [] = false
is_natural (c ∷ text) = cond (eqb c 48) (eqb (length text) 0) (all_digits (c ∷ text))

-- the number that v and the digits behind it make
unfoldable pub value_from : ℕ → List ℕ → ℕ
value_from v [] = v
value_from v (c ∷ text) = value_from (10 * v + (c - 48)) text
