-- Document 02, T-11, one misheard word: two sequences that differ at one place, and how far their points may lie apart. The sentences quoted are that
-- request's. Assumes nothing.
use Rattle.std.specs.Prelude.{◌≡◌, List, ℕ, ◌+◌, ◌*◌, ◌-◌, ◌≤◌, ◌<◌, length, get_or, ℤ, pos, nat_abs, ◌-ℤ◌}
use Rattle.integer.specs.Integer.{sum}
use Rattle.backoff.specs.Limits.{largest_backoff}

-- "two sequences of equal length .. that differ at one place": the place is counted from 0, and at every other one the words are the same
pub record DifferAt (i : ℕ) (us vs : List ℕ) : Type 0 where
  pub same_length : length us ≡ length vs
  pub inside : i < length us
  pub alike : (j : ℕ) → (j ≡ i → ⊥) → get_or us j 0 ≡ get_or vs j 0

-- how far two numbers lie apart
abbrev pub distance : ℤ → ℤ → ℕ
distance a b = nat_abs (a -ℤ b)

-- how far a word's points can be moved where the order is n: they lie between −n and n − 1 times the largest back-off
abbrev pub word_move : ℕ → ℕ
word_move n = (2 * n - 1) * largest_backoff

-- how far a total can be moved: "n × (2 × n − 1) × 99,000,000", whose last factor is the largest back-off
abbrev pub total_move : ℕ → ℕ
total_move n = n * (2 * n - 1) * largest_backoff

-- how far the back-off rule can move it: less, where n is 2 or more
abbrev pub closer_move : ℕ → ℕ
closer_move n = (3 * n - 2) * largest_backoff

-- two lists of items, one for each word, that are alike but for those of the word at place i and the n − 1 after it; `none` stands past a list's end
pub record AlikeOutside {A : Type 0} (none : A) (n i : ℕ) (xs ys : List A) : Type 0 where
  pub before : (j : ℕ) → j < i → get_or xs j none ≡ get_or ys j none
  pub behind : (j : ℕ) → i + n ≤ j → get_or xs j none ≡ get_or ys j none

-- The points of two such sequences, and their length bytes: "only that word and the n − 1 after it may differ in points. So the totals are at most .. apart."
pub record OneWordMoves (n i : ℕ) (ps qs : List ℤ) (bs cs : List ℕ) : Type 0 where
  pub points : AlikeOutside (pos 0) n i ps qs
  pub lengths : AlikeOutside 0 n i bs cs
  pub each : (j : ℕ) → distance (get_or ps j (pos 0)) (get_or qs j (pos 0)) ≤ word_move n
  pub totals : distance (sum ps) (sum qs) ≤ total_move n
