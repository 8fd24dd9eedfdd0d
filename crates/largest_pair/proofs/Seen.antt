-- The pairs that were looked at: group by group, block by block, place by place, and then all. Assumes nothing.
use Rattle.std.specs.declared.option.Option.{Option}
use Rattle.std.specs.declared.option.Option.TheVariants.{Some, None}
use mathlib.Core.Path.{◌≡◌, refl, sym, ap, ap₂, ◌∙◌}
use mathlib.Core.Logic.{◌⊎◌, inl, inr}
use mathlib.Core.Bool.{true}
use mathlib.Core.List.{List}
use Prim.Native.Nat.{ℕ, zero, suc, ◌+◌, ◌*◌, ◌-◌, ◌^◌, ◌≤◌, ◌<◌}
use native.Mathlib.Nat.{pow-zero, pow-suc, one-le-pow, pow-le-pow_right, mul_assoc, mul-le-mul_right, mul-le-mul_left, mul-lt-mul_of_pos_right}
use native.Mathlib.Decide.{ℕ_discrete}
use native.Mathlib.Omega.{arith}
use lib.ListN.{length}
use lib.IntN.{ℤ, ◌-ℤ◌}
use lib.Signed.{lt_z}
use borrow.Author.Tests.{eq-eqb, eqb-true}
use Rattle.integer.proofs.Arithmetic.{zarith}
use Rattle.integer.proofs.Ranges.{lt_or_ge}
use Rattle.group_pairs.specs.declared.Pair.{Pair}
use Rattle.group_pairs.specs.Groups.{apart_in, IsGroup, Spans, InGroup, GroupPair}
use Rattle.largest_pair.specs.Pairs.{first_largest, IsPair}
use Rattle.largest_pair.specs.Inner.{better, first_of, Passed, Seen, none_yet, Kept, nothing, something, KeptSoFar, IsListing, IsPlace, IsBlock, IsGroupOf, digits_apart, one_digit}
use Rattle.largest_pair.proofs.Kept.{further-better, kept_same, kept-one, kept-better}
use Rattle.largest_pair.proofs.Groups.{group_nearer, group_later}
use Rattle.largest_pair.proofs.Earliest.{first-kept}
use Rattle.largest_pair.proofs.Digits.{one-group, group_of}

-- m is kept of the pairs that were looked at
abbrev KeptPair : List ℤ → ℕ → ℕ → ℕ → Pair → Type 0
KeptPair totals v weight f m = Kept none_yet (Seen v (length totals) weight f) (apart_in totals) m

-- ---- one more group

-- a pair is seen where its group was looked at
seen_at : {v n weight f a b : ℕ} (weight' f' : ℕ) (s : Seen v n weight f a b) → Passed v weight' f' s.place s.block s.group → Seen v n weight' f' a b
seen_at weight' f' s p = record { place = s.place; block = s.block; group = s.group; inside = s.inside; passed = p; pair = s.pair; listed = s.listed }

seen_wider : (v n weight f g : ℕ) → f ≤ g → (a b : ℕ) → Seen v n weight f a b → Seen v n weight g a b
seen_wider v n weight f g h a b s = seen_at weight g s (go s.passed)
  where
    go : Passed v weight f s.place s.block s.group → Passed v weight g s.place s.block s.group
    go (inl l) = inl l
    go (inr (e, l)) = inr (e, omega arith)

module _ (totals : List ℤ) (v weight f : ℕ) (g : IsGroupOf totals v weight f) where
  abbrev n : ℕ
  n = length totals

  some_weight : 0 < weight
  some_weight = rw g.block.weight_is (one-le-pow g.block.place v (omega (arith, g.block.two)))

  pub group-inside : (s : ℕ) → s < v → f + s * weight < length totals
  group-inside s h = omega (arith, g.first-is, g.inside, g.block.inside, mul-le-mul_right {m = suc s} {n = v} weight h)

  pub is-group : IsGroup totals f weight v
  is-group = record { two = g.block.two; apart = some_weight; inside = group-inside }

  seen_before : (a b : ℕ) → Seen v n weight f a b → Seen v n weight (f + 1) a b
  seen_before = seen_wider v n weight f (f + 1) (omega arith)

  seen_either : (a b : ℕ) → Seen v n weight (f + 1) a b → Seen v n weight f a b ⊎ InGroup f weight v a b
  seen_either a b s = go s.passed
    where
      first : ℕ
      first = first_of v (v ^ s.place) s.block s.group

      go : Passed v weight (f + 1) s.place s.block s.group → Seen v n weight f a b ⊎ InGroup f weight v a b
      go (inl l) = inl (seen_at weight f s (inl l))
      go (inr (e, l)) = decide (ℕ_discrete first f)
        where
          decide : Dec (first ≡ f) → Seen v n weight f a b ⊎ InGroup f weight v a b
          decide (yes q) = inr (rw (q, e) at s.pair)
          decide (no q) = inl (seen_at weight f s (inr (e, omega arith)))

  seen_group : (a b : ℕ) → InGroup f weight v a b → Seen v n weight (f + 1) a b
  seen_group a b q =
      let w = g.block.weight_is in
      let e : f ≡ first_of v (v ^ g.block.place) g.block.block g.group = g.first-is ∙ ap (λ (m : ℕ). m + g.group) (g.block.first-is ∙ ap (λ (m : ℕ). g.block.block * (m * v)) w) in
      record {
        place = g.block.place;
        block = g.block.block;
        group = g.group;
        inside = rw w at g.inside;
        passed = inr (sym w, omega (arith, e));
        pair = rw (sym e, sym w) q;
        listed = rw q.second_is (group-inside q.t q.inside);
      }

  -- a group that changes nothing, and what its pair changes
  module _ (low high : ℤ) (spans : Spans totals f weight v low high) (m : Pair) where
    pub nearer_seen : KeptPair totals v weight f m → lt_z (high -ℤ low) m.distance ≡ true → KeptPair totals v weight (f + 1) m
    nearer_seen = group_nearer totals f weight v is-group low high spans seen_either seen_before seen_group m

    pub later_seen : KeptPair totals v weight f m → high -ℤ low ≡ m.distance → m.first ≤ f → KeptPair totals v weight (f + 1) m
    later_seen = group_later totals f weight v is-group low high spans seen_either seen_before seen_group m

  pub group_seen : (m c : Pair) → KeptPair totals v weight f m → GroupPair totals f weight v c → KeptPair totals v weight (f + 1) (better m c)
  group_seen m c k p = rw p.pair_is (kept-better (apart_in totals) seen_either seen_before seen_group k p.largest)

  pub first-seen : (c : Pair) → KeptPair totals v weight f none_yet → GroupPair totals f weight v c → KeptPair totals v weight (f + 1) c
  first-seen c k p =
      let further : lt_z none_yet.distance c.distance ≡ true = rw p.pair_is refl in
      let e = sym (further-better none_yet c further) in
      rw e at (group_seen none_yet c k p)

-- ---- one more block: no group begins behind the first groups of a block

-- a block that begins in the listing ends in it
pub block_at : (totals : List ℤ) (v weight b f : ℕ) → IsPlace totals v weight → f ≡ b * (weight * v) → f < length totals → IsBlock totals v weight f
block_at totals v weight b f h e l = record { two = h.two; place = h.place; weight_is = h.weight_is; block = b; first-is = e; inside = go (lt_or_ge b h.blocks) }
  where
    go : (b < h.blocks) ⊎ (h.blocks ≤ b) → f + weight * v ≤ length totals
    go (inl u) = omega (arith, h.long, mul-le-mul_right {m = suc b} {n = h.blocks} (weight * v) u)
    go (inr u) = absurd (omega (arith, h.long, mul-le-mul_right (weight * v) u))

pub some_block : (totals : List ℤ) (v weight : ℕ) → IsPlace totals v weight → 0 < weight * v
some_block totals v weight h = omega (arith, rw (sym h.weight_is) at (one-le-pow h.place v (omega (arith, h.two))), mul-le-mul_left {m = 1} {n = v} weight (omega (arith, h.two)))

pub block_seen : (totals : List ℤ) (v weight f : ℕ) (m : Pair) → IsBlock totals v weight f → KeptPair totals v weight (f + weight) m → KeptPair totals v weight (f + weight * v) m
block_seen totals v weight f m h = kept_same (apart_in totals) (seen_wider v n weight (f + weight) (f + weight * v) (omega (arith, mul-le-mul_left {m = 1} {n = v} weight (omega (arith, h.two))))) back
  where
    n : ℕ
    n = length totals

    back : (a b : ℕ) → Seen v n weight (f + weight * v) a b → Seen v n weight (f + weight) a b
    back a b s = seen_at weight (f + weight) s (go s.passed)
      where
        not-past : v ^ s.place ≡ weight → first_of v weight s.block s.group < f + weight * v → first_of v weight s.block s.group < f + weight
        not-past e l = decide (lt_or_ge h.block s.block)
          where
            decide : (h.block < s.block) ⊎ (s.block ≤ h.block) → first_of v weight s.block s.group < f + weight
            decide (inl u) = absurd (omega (arith, h.first-is, mul-le-mul_right {m = suc h.block} {n = s.block} (weight * v) u))
            decide (inr u) = omega (arith, h.first-is, mul-le-mul_right (weight * v) u, s.inside)

        go : Passed v weight (f + weight * v) s.place s.block s.group → Passed v weight (f + weight) s.place s.block s.group
        go (inl l) = inl l
        go (inr (e, l)) = inr (e, rw e (not-past e (rw e at l)))

-- ---- one more place

pow_split : (v a b : ℕ) → v ^ (a + b) ≡ v ^ b * v ^ a
pow_split v zero b = let e : zero + b ≡ b = omega arith in rw e (omega (arith, ap (λ (n : ℕ). v ^ b * n) (pow-zero v)))
pow_split v (suc a) b =
    let e : suc a + b ≡ suc (a + b) = omega arith in
    rw e (pow-suc v (a + b) ∙ ap (λ (n : ℕ). n * v) (pow_split v a b) ∙ mul_assoc (v ^ b) (v ^ a) v ∙ ap (λ (n : ℕ). v ^ b * n) (sym (pow-suc v a)))

pub place_at_lem : (totals : List ℤ) (v k p weight : ℕ) → IsListing totals v k → p < k → weight ≡ v ^ p → IsPlace totals v weight
place_at_lem totals v k p weight h l w = record { two = h.two; place = p; weight_is = w; blocks = v ^ (k - suc p); long = h.long ∙ ap (λ (n : ℕ). v ^ n) e ∙ pow_split v (suc p) (k - suc p) ∙ ap (λ (n : ℕ). v ^ (k - suc p) * n) (pow-suc v p ∙ ap (λ (n : ℕ). n * v) (sym w)) }
  where
    e : k ≡ suc p + (k - suc p)
    e = omega arith

-- a place further ahead weighs more
rises : (v p q : ℕ) → 2 ≤ v → q < p → v ^ q < v ^ p
rises v p q two l =
    let some : 0 < v = omega arith in
    omega (arith, pow-suc v q, mul-le-mul_left {m = 2} {n = v} (v ^ q) two, one-le-pow q v some, pow-le-pow_right some {i = suc q} {j = p} l)

-- so one that weighs less than the next is this one, or weighs less than it
not-next : (v p q : ℕ) → 2 ≤ v → v ^ q < v ^ p * v → (v ^ q < v ^ p) ⊎ (v ^ q ≡ v ^ p)
not-next v p q two l = go (lt_or_ge q p) (ℕ_discrete q p)
  where
    go : (q < p) ⊎ (p ≤ q) → Dec (q ≡ p) → (v ^ q < v ^ p) ⊎ (v ^ q ≡ v ^ p)
    go (inl m) o = inl (rises v p q two m)
    go (inr m) (yes e) = inr (ap (λ (n : ℕ). v ^ n) e)
    go (inr m) (no e) = absurd (omega (arith, pow-suc v p, pow-le-pow_right {n = v} (omega arith) {i = suc p} {j = q} (omega arith)))

pub place_seen : (totals : List ℤ) (v p weight : ℕ) (m : Pair) → 2 ≤ v → weight ≡ v ^ p → KeptPair totals v weight (length totals) m → KeptPair totals v (weight * v) 0 m
place_seen totals v p weight m two w = kept_same (apart_in totals) to from
  where
    n : ℕ
    n = length totals

    more : weight < weight * v
    more = omega (arith, rw (sym w) at (one-le-pow p v (omega arith)), mul-le-mul_left {m = 2} {n = v} weight two)

    to : (a b : ℕ) → Seen v n weight n a b → Seen v n (weight * v) 0 a b
    to a b s = seen_at (weight * v) 0 s (go s.passed)
      where
        go : Passed v weight n s.place s.block s.group → Passed v (weight * v) 0 s.place s.block s.group
        go (inl l) = inl (omega (arith, more))
        go (inr (e, l)) = inl (omega (arith, more))

    from : (a b : ℕ) → Seen v n (weight * v) 0 a b → Seen v n weight n a b
    from a b s = seen_at weight n s (go s.passed)
      where
        early : first_of v (v ^ s.place) s.block s.group < n
        early = omega (arith, s.pair.second_is, s.listed)

        go : Passed v (weight * v) 0 s.place s.block s.group → Passed v weight n s.place s.block s.group
        go (inl l) = decide (not-next v p s.place two (rw w at l))
          where
            decide : (v ^ s.place < v ^ p) ⊎ (v ^ s.place ≡ v ^ p) → Passed v weight n s.place s.block s.group
            decide (inl u) = inl (rw (sym w) at u)
            decide (inr u) = inr (u ∙ sym w, early)
        go (inr (e, l)) = absurd (omega arith)

-- ---- nothing yet, and all

pub none_seen : (totals : List ℤ) (v : ℕ) → 0 < v → KeptPair totals v 1 0 none_yet
none_seen totals v some = nothing refl (λ a b s. go s.place s.block s.group s.passed)
  where
    go : (place block group : ℕ) → Passed v 1 0 place block group → ⊥
    go place block group (inl l) = omega (arith, one-le-pow place v some)
    go place block group (inr (e, l)) = omega arith

module _ (v k : ℕ) (two : 2 ≤ v) where
  some : 0 < v
  some = omega arith

  seen_pair : (a b : ℕ) → Seen v (v ^ k) (v ^ k) 0 a b → IsPair (one_digit v k) (v ^ k) a b
  seen_pair a b s = record { ordered = omega (arith, q.first-is, q.second_is, mul-lt-mul_of_pos_right q.ordered (one-le-pow s.place v some)); inside = s.listed; one_place = one }
    where
      q : InGroup (first_of v (v ^ s.place) s.block s.group) (v ^ s.place) v a b
      q = s.pair

      go : Passed v (v ^ k) 0 s.place s.block s.group → (s.place < k) ⊎ (k ≤ s.place) → s.place < k
      go o (inl l) = l
      go (inl u) (inr l) = absurd (omega (arith, pow-le-pow_right some {i = k} {j = s.place} l))
      go (inr (e, u)) (inr l) = absurd (omega arith)

      one : one_digit v k a b ≡ true
      one = unfold one_digit in eq-eqb (digits_apart v k a b) 1 (ap₂ (digits_apart v k) q.first-is q.second_is ∙ one-group v some k s.place s.block s.group q.s q.t (go s.passed (lt_or_ge s.place k)) s.inside (omega (arith, q.ordered, q.inside)) q.inside (λ e. omega (arith, q.ordered)))

  pair_seen : (a b : ℕ) → IsPair (one_digit v k) (v ^ k) a b → Seen v (v ^ k) (v ^ k) 0 a b
  unfolding one_digit
  pair_seen a b p =
      let g = group_of v some k a b p.ordered p.inside (eqb-true (digits_apart v k a b) 1 p.one_place) in
      record { place = g.place; block = g.block; group = g.group; inside = g.inside; passed = inl (rises v k g.place two g.low); pair = g.pair; listed = p.inside }

  -- the first two sentences differ in their last word
  pub first_two : 1 ≤ k → IsPair (one_digit v k) (v ^ k) 0 1
  first_two h = record { ordered = omega arith; inside = omega (arith, rises v k 0 two h, pow-zero v); one_place = one }
    where
      one : one_digit v k 0 1 ≡ true
      one = unfold one_digit in eq-eqb (digits_apart v k 0 1) 1 (rw (at 0, at 1) at (one-group v some k 0 0 0 0 1 (omega arith) (omega (arith, pow-zero v)) some two (λ e. omega arith)))
        where
          at : (s : ℕ) → first_of v (v ^ 0) 0 0 + s * v ^ 0 ≡ s
          at s = omega (arith, ap (λ (n : ℕ). s * n) (pow-zero v))

  -- so a pair is kept
  none-kept : (totals : List ℤ) (a b : ℕ) → IsPair (one_digit v k) (v ^ k) a b → Kept none_yet (IsPair (one_digit v k) (v ^ k)) (apart_in totals) none_yet → ⊥
  none-kept totals a b p (nothing e f) = f a b p
  none-kept totals a b p (something i j e f) = let d = ap (λ (q : Pair). q.distance) e in omega zarith

  pub all_seen : (totals : List ℤ) (m : Option Pair) → length totals ≡ v ^ k → 1 ≤ k → KeptSoFar totals v (v ^ k) 0 m → m ≡ Some (first_largest (one_digit v k) (apart_in totals) (length totals))
  all_seen totals None e h f = absurd (none-kept totals 0 1 (first_two h) (kept_same (apart_in totals) seen_pair pair_seen (rw e at f)))
  all_seen totals (Some m) e h f =
      ap Some (kept-one (apart_in totals) 0 1 (first_two h) (kept_same (apart_in totals) seen_pair pair_seen (rw e at f)) (first-kept (one_digit v k) (apart_in totals) (v ^ k)) ∙ ap (first_largest (one_digit v k) (apart_in totals)) (sym e))
