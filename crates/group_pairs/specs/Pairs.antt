-- Document 02, T-13, the largest move: a pair of sentences, and the largest of some pairs. The sentences quoted are that request's. Assumes nothing.
use Rattle.std.specs.Prelude.{◌≡◌, ◌⊎◌, ℕ, suc, ◌≤◌, ◌<◌, pos}
use Rattle.group_pairs.specs.declared.Pair.{Pair}

-- Sentences are counted from 0 here, and `distance` says how far their totals lie apart: the sentences i and j as a pair, "named by their numbers there
-- from 1".
abbrev pub pair_of : (ℕ → ℕ → ℕ) → ℕ → ℕ → Pair
pair_of distance i j = record { distance = pos (distance i j); first = suc i; second = suc j }

-- the pair (i, j) is (a, b), or its first, then second, comes earlier
abbrev pub NotAfter : ℕ → ℕ → ℕ → ℕ → Type 0
NotAfter i j a b = (i < a) ⊎ ((i ≡ a) × (j ≤ b))

-- the largest distance is that of the pairs that P holds of, and (i, j) is "the pair that reaches it whose first sentence, then second, is earliest"
pub record IsLargest (P : ℕ → ℕ → Type 0) (distance : ℕ → ℕ → ℕ) (i j : ℕ) : Type 0 where
  pub pair : P i j
  pub largest : (a b : ℕ) → P a b → distance a b ≤ distance i j
  pub earliest : (a b : ℕ) → P a b → distance a b ≡ distance i j → NotAfter i j a b
