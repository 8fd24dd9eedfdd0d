-- The list as it is lent: "a slice of signed 32-bit numbers, eight to a row: m, five words oldest first (unused ones 0), log-probability p,
-- back-off b". Rows are counted from 0 here. Assumes nothing.
use Rattle.std.specs.Prelude.{Bool, true, cond, ◌&&◌, List, [], ◌∷◌, map, ℕ, zero, suc, ◌+◌, ◌*◌, ◌/◌, ◌-◌, leb, ℤ, pos, length, get_or, take, drop}
use Rattle.integer.specs.Integer.{eq_z, between, up_to}
use Rattle.backoff.specs.Limits.{order_limit, word_limit}

unfoldable pub rows_of : List ℤ → ℕ
rows_of t = length t / 8

-- number j of row i
unfoldable pub field : List ℤ → ℕ → ℕ → ℤ
field t i j = get_or t (8 * i + j) (pos 0)

-- "log-probability p, back-off b"
abbrev pub probability_at : List ℤ → ℕ → ℤ
probability_at t i = field t i 6

abbrev pub backoff_at : List ℤ → ℕ → ℤ
backoff_at t i = field t i 7

-- m of row i where it lies in 1..5, else 0
unfoldable pub length_of : List ℤ → ℕ → ℕ
length_of t i = up_to (pos order_limit) (field t i 0)

-- "The order n is the last row's m", 0 where that is outside 1..5
unfoldable pub order_of : List ℤ → ℕ
order_of t = length_of t (rows_of t - 1)

-- "Words are 1 to 65,535": the word that a number is, 0 where it is none
abbrev pub word_of : ℤ → ℕ
word_of z = up_to (pos word_limit) z

unfoldable pub words_of : List ℤ → List ℕ
words_of zs = map (λ (z : ℤ). word_of z) zs

-- the words of row i, oldest first
unfoldable pub words : List ℤ → ℕ → List ℕ
words t i = words_of (take (length_of t i) (drop (8 * i + 1) t))

-- the two shorter rows that row i needs, "one without its first word and one without its last"
unfoldable pub without_first : List ℤ → ℕ → List ℕ
without_first t i = words_of (take (length_of t i - 1) (drop (8 * i + 2) t))

unfoldable pub without_last : List ℤ → ℕ → List ℕ
without_last t i = words_of (take (length_of t i - 1) (drop (8 * i + 1) t))

-- the last word of row i, alone
unfoldable pub last_word : List ℤ → ℕ → List ℕ
last_word t i = words_of (take 1 (drop (8 * i + length_of t i) t))

-- the row of these words: "m, five words oldest first (unused ones 0), log-probability p, back-off b"
abbrev pub row : List ℕ → ℤ → ℤ → List ℤ
row ws p b =
    pos (length ws) ∷ pos (get_or ws 0 0) ∷ pos (get_or ws 1 0) ∷ pos (get_or ws 2 0) ∷ pos (get_or ws 3 0) ∷ pos (get_or ws 4 0) ∷ p ∷ b ∷ []

-- check 4: "used word outside 1..65,535, unused not 0", at word place j of row i, in 1..5
unfoldable pub place_fits : List ℤ → ℕ → ℕ → Bool
place_fits t i j = cond (leb j (length_of t i)) (between (pos 1) (pos word_limit) (field t i j)) (eq_z (field t i j) (pos 0))

-- the same at the k places from j on
unfoldable pub places_fit : List ℤ → ℕ → ℕ → ℕ → Bool
places_fit t i j zero = true
places_fit t i j (suc k) = place_fits t i j && places_fit t i (suc j) k
