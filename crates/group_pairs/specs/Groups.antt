-- What the functions over a group of sentences are held to. Sentences are counted from 0. Assumes nothing.
use Rattle.std.specs.Prelude.{◌≡◌, List, ℕ, ◌+◌, ◌*◌, ◌≤◌, ◌<◌, length, get_or, ℤ, pos, nat_abs, ◌-ℤ◌, ◌≤ℤ◌}
use Rattle.one_word.specs.OneWord.{distance}
use Rattle.group_pairs.specs.declared.Pair.{Pair}
use Rattle.group_pairs.specs.declared.Range.{Range}
use Rattle.group_pairs.specs.Pairs.{pair_of, IsLargest}

-- ---- totals

abbrev pub total_at : List ℤ → ℕ → ℤ
total_at totals i = get_or totals i (pos 0)

-- how far the i-th and the j-th total lie apart
abbrev pub apart_in : List ℤ → ℕ → ℕ → ℕ
apart_in totals i j = distance (total_at totals i) (total_at totals j)

-- the most that a total may be, from 0: no two lie too far apart for 64 bits
abbrev pub most_total : ℕ
most_total = 4611686018427387903

-- none is more
pub record Small (totals : List ℤ) : Type 0 where
  pub each : (i : ℕ) → i < length totals → nat_abs (total_at totals i) ≤ most_total

-- ---- a group: so many sentences from the first on, each the weight of the place behind the one before

-- two or more, all in the listing
pub record IsGroup (totals : List ℤ) (first weight count : ℕ) : Type 0 where
  pub two : 2 ≤ count
  pub apart : 0 < weight
  pub inside : (s : ℕ) → s < count → first + s * weight < length totals

-- one of them has the total z
pub record Has (totals : List ℤ) (first weight count : ℕ) (z : ℤ) : Type 0 where
  pub s : ℕ
  pub inside : s < count
  pub total : total_at totals (first + s * weight) ≡ z

-- none of the first s of them has it
abbrev pub NoneBefore : List ℤ → ℕ → ℕ → ℤ → ℕ → Type 0
NoneBefore totals first weight z s = (t : ℕ) → t < s → total_at totals (first + t * weight) ≡ z → ⊥

-- the s-th of them, the sentence `at`, has it, and none before
pub record FirstWith (totals : List ℤ) (first weight : ℕ) (z : ℤ) (at : ℕ) : Type 0 where
  pub s : ℕ
  pub at-is : at ≡ first + s * weight
  pub total : total_at totals at ≡ z
  pub before : NoneBefore totals first weight z s

-- all of them have totals from low to high, and these two are among them
pub record Spans (totals : List ℤ) (first weight count : ℕ) (low high : ℤ) : Type 0 where
  pub low-has : Has totals first weight count low
  pub high-has : Has totals first weight count high
  pub least : (s : ℕ) → s < count → low ≤ℤ total_at totals (first + s * weight)
  pub most : (s : ℕ) → s < count → total_at totals (first + s * weight) ≤ℤ high

-- the range of a group, as the code holds it
pub record IsRange (totals : List ℤ) (first weight count : ℕ) (r : Range) : Type 0 where
  pub spans : Spans totals first weight count r.low r.high
  pub distance : r.distance ≡ r.high -ℤ r.low

-- two of them, in order
pub record InGroup (first weight count a b : ℕ) : Type 0 where
  pub s : ℕ
  pub t : ℕ
  pub ordered : s < t
  pub inside : t < count
  pub first-is : a ≡ first + s * weight
  pub second_is : b ≡ first + t * weight

-- the largest pair of the group
pub record GroupPair (totals : List ℤ) (first weight count : ℕ) (m : Pair) : Type 0 where
  pub i : ℕ
  pub j : ℕ
  pub pair_is : m ≡ pair_of (apart_in totals) i j
  pub largest : IsLargest (InGroup first weight count) (apart_in totals) i j
