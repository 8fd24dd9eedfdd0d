-- What the functions that look for the largest pair are held to. Sentences are counted from 0. Assumes nothing.
use Rattle.std.specs.Prelude.{◌≡◌, ◌⊎◌, Bool, cond, ◌&&◌, ◌||◌, List, ℕ, zero, suc, ◌+◌, ◌*◌, ◌/◌, ◌%◌, ◌^◌, ◌≤◌, ◌<◌, eqb, ltb, length, ℤ, negsuc}
use Rattle.std.specs.declared.option.Option.{Option}
use Rattle.std.specs.declared.option.Option.TheVariants.{Some, None}
use Rattle.std.specs.Int.Signed.{lt_z}
use Rattle.integer.specs.Integer.{eq_z}
use Rattle.backoff.specs.Limits.{sentence_limit, usable_limit}
use Rattle.group_pairs.specs.declared.Pair.{Pair}
use Rattle.group_pairs.specs.Pairs.{pair_of, IsLargest}
use Rattle.group_pairs.specs.Groups.{apart_in, InGroup}

-- ---- the pair that is kept

-- no pair yet: every pair is further apart
abbrev pub none_yet : Pair
none_yet = record { distance = negsuc 0; first = 0; second = 0 }

abbrev pub kept_pair : Option Pair → Pair
kept_pair None = none_yet
kept_pair (Some pair) = pair

-- the further of two pairs, and of two that are as far apart the earlier
unfoldable pub better : Pair → Pair → Pair
better m c = cond (lt_z m.distance c.distance || (eq_z m.distance c.distance && (ltb c.first m.first || (eqb c.first m.first && ltb c.second m.second)))) c m

-- m is kept of the pairs that P holds of, where `none` stands for no pair
pub data Kept (none : Pair) (P : ℕ → ℕ → Type 0) (distance : ℕ → ℕ → ℕ) (m : Pair) : Type 0 where
  nothing : m ≡ none → ((a b : ℕ) → P a b → ⊥) → Kept none P distance m
  something : (i j : ℕ) → m ≡ pair_of distance i j → IsLargest P distance i j → Kept none P distance m

-- ---- groups of v sentences, place by place from the last: v words are usable, and a place with p places behind it has the weight v ^ p

-- the first sentence of a group: groups with the same words before the place are a block, and their sentences lie together
abbrev pub first_of : ℕ → ℕ → ℕ → ℕ → ℕ
first_of v weight block group = block * (weight * v) + group

-- a group that was looked at: its place weighs less, or it is at this place and its first sentence comes before f
abbrev pub Passed : ℕ → ℕ → ℕ → ℕ → ℕ → ℕ → Type 0
Passed v weight f place block group = (v ^ place < weight) ⊎ ((v ^ place ≡ weight) × (first_of v (v ^ place) block group < f))

-- a pair of the n sentences in such a group
pub record Seen (v n weight f a b : ℕ) : Type 0 where
  pub place : ℕ
  pub block : ℕ
  pub group : ℕ
  pub inside : group < v ^ place
  pub passed : Passed v weight f place block group
  pub pair : InGroup (first_of v (v ^ place) block group) (v ^ place) v a b
  pub listed : b < n

-- m is kept of these pairs
abbrev pub KeptSoFar : List ℤ → ℕ → ℕ → ℕ → Option Pair → Type 0
KeptSoFar totals v weight f m = Kept none_yet (Seen v (length totals) weight f) (apart_in totals) (kept_pair m)

-- the totals of all sentences of k words
pub record IsListing (totals : List ℤ) (v k : ℕ) : Type 0 where
  pub two : 2 ≤ v
  pub few : v ≤ usable_limit
  pub some : 1 ≤ k
  pub short : k ≤ sentence_limit
  pub long : length totals ≡ v ^ k

-- a place, and how many blocks it leaves
pub record IsPlace (totals : List ℤ) (v weight : ℕ) : Type 0 where
  pub two : 2 ≤ v
  pub place : ℕ
  pub weight_is : weight ≡ v ^ place
  pub blocks : ℕ
  pub long : length totals ≡ blocks * (weight * v)

-- a block of the place begins with the sentence f
pub record IsBlock (totals : List ℤ) (v weight f : ℕ) : Type 0 where
  pub two : 2 ≤ v
  pub place : ℕ
  pub weight_is : weight ≡ v ^ place
  pub block : ℕ
  pub first-is : f ≡ block * (weight * v)
  pub inside : f + weight * v ≤ length totals

-- a group of a block begins with the sentence f
pub record IsGroupOf (totals : List ℤ) (v weight f : ℕ) : Type 0 where
  pub start : ℕ
  pub block : IsBlock totals v weight start
  pub group : ℕ
  pub inside : group < weight
  pub first-is : f ≡ start + group

-- ---- numbers that differ in one digit

-- at how many of the k lowest digits to the base v two numbers differ
unfoldable pub digits_apart : ℕ → ℕ → ℕ → ℕ → ℕ
digits_apart v zero i j = 0
digits_apart v (suc k) i j = cond (eqb (i % v) (j % v)) 0 1 + digits_apart v k (i / v) (j / v)

unfoldable pub one_digit : ℕ → ℕ → ℕ → ℕ → Bool
one_digit v k i j = eqb (digits_apart v k i j) 1
