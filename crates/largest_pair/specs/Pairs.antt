-- Document 02, T-13, the largest move: pairs of sentences that differ at one place, looked at in order. Sentences are counted from 0 here. The sentences
-- quoted are that request's. Assumes nothing.
use Rattle.std.specs.Prelude.{◌≡◌, Bool, true, cond, ◌||◌, ℕ, zero, suc, ◌<◌, eqb, pos}
use Rattle.std.specs.Int.Signed.{lt_z}
use Rattle.group_pairs.specs.declared.Pair.{Pair}
use Rattle.group_pairs.specs.Pairs.{pair_of}

-- a pair of the n sentences, the first before the second, that differs at one place
pub record IsPair (apart : ℕ → ℕ → Bool) (n i j : ℕ) : Type 0 where
  pub ordered : i < j
  pub inside : j < n
  pub one_place : apart i j ≡ true

-- no pair: "the distance is 0 and no pair is named (0, 0)"
abbrev pub no_pair : Pair
no_pair = record { distance = pos 0; first = 0; second = 0 }

-- A pair that is looked at after m: it takes the place of m where m is no pair, or where its distance is larger. So of the pairs with the largest distance the
-- one that was looked at first is kept.
unfoldable pub further : Pair → Pair → Pair
further m c = cond (eqb m.first 0 || lt_z m.distance c.distance) c m

-- `apart` says which sentences differ at one place
module _ (apart : ℕ → ℕ → Bool) (distance : ℕ → ℕ → ℕ) where
  abbrev pub looked : Pair → ℕ → ℕ → Pair
  looked m i j = cond (apart i j) (further m (pair_of distance i j)) m

  -- the sentence i with each of so many sentences from j on, in their order
  unfoldable pub with_seconds : ℕ → Pair → ℕ → ℕ → Pair
  with_seconds zero m i j = m
  with_seconds (suc c) m i j = with_seconds c (looked m i j) i (suc j)

  -- each of the last so many sentences, of which i is the first, with each that comes after it: "whose first sentence, then second, is earliest"
  unfoldable pub with_firsts : ℕ → Pair → ℕ → Pair
  with_firsts zero m i = m
  with_firsts (suc c) m i = with_firsts c (with_seconds c m i (suc i)) (suc i)

  -- each of n sentences with each that comes after it
  unfoldable pub first_largest : ℕ → Pair
  first_largest n = with_firsts n no_pair 0
