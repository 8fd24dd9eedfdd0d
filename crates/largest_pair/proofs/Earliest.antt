-- Of all pairs looked at in their order, the first of those with the largest distance is kept. Assumes nothing.
use mathlib.Core.Path.{◌≡◌, refl, sym, ap, ◌∙◌}
use mathlib.Core.Logic.{◌⊎◌, inl, inr}
use mathlib.Core.Bool.{Bool, true, false, cond, true≢false}
use Prim.Native.Nat.{ℕ, zero, suc, ◌+◌, ◌<◌}
use native.Mathlib.Decide.{ℕ_discrete}
use native.Mathlib.Omega.{arith}
use Rattle.group_pairs.specs.declared.Pair.{Pair}
use Rattle.group_pairs.specs.Pairs.{pair_of, NotAfter, IsLargest}
use Rattle.largest_pair.specs.Pairs.{no_pair, further, looked, with_seconds, with_firsts, first_largest, IsPair}
use Rattle.largest_pair.specs.Inner.{Kept, nothing}
use Rattle.largest_pair.proofs.Kept.{kept-once, kept_same, kept-alike, kept-further}

module _ (apart : ℕ → ℕ → Bool) (distance : ℕ → ℕ → ℕ) (n : ℕ) where
  -- the pair (c, d) comes before (a, b) in the order in which pairs are looked at
  abbrev Before : ℕ → ℕ → ℕ → ℕ → Type 0
  Before a b c d = (c < a) ⊎ ((c ≡ a) × (d < b))

  abbrev PairBefore : ℕ → ℕ → ℕ → ℕ → Type 0
  PairBefore a b c d = IsPair apart n c d × Before a b c d

  abbrev KeptBefore : ℕ → ℕ → Pair → Type 0
  KeptBefore a b m = Kept no_pair (PairBefore a b) distance m

  -- one more second
  next : (a b c d : ℕ) → Before a (suc b) c d → Before a b c d ⊎ ((c ≡ a) × (d ≡ b))
  next a b c d (inl l) = inl (inl l)
  next a b c d (inr (e, l)) = go (ℕ_discrete d b)
    where
      go : Dec (d ≡ b) → Before a b c d ⊎ ((c ≡ a) × (d ≡ b))
      go (yes q) = inr (e, q)
      go (no q) = inl (inr (e, omega arith))

  wider : (a b c d : ℕ) → PairBefore a b c d → PairBefore a (suc b) c d
  wider a b c d (p, inl l) = (p, inl l)
  wider a b c d (p, inr (e, l)) = (p, inr (e, omega arith))

  not_after : (a b c d : ℕ) → PairBefore a b c d → NotAfter c d a b
  not_after a b c d (p, inl l) = inl l
  not_after a b c d (p, inr (e, l)) = inr (e, omega arith)

  passed_over : (a b : ℕ) (m : Pair) → apart a b ≡ false → KeptBefore a b m → KeptBefore a (suc b) m
  passed_over a b m e = kept_same distance (wider a b) (λ c d r. (r.0, go c d r.0 (next a b c d r.1)))
    where
      go : (c d : ℕ) → IsPair apart n c d → Before a b c d ⊎ ((c ≡ a) × (d ≡ b)) → Before a b c d
      go c d p (inl q) = q
      go c d p (inr (x, y)) = absurd (true≢false (sym p.one_place ∙ ap (λ (t : ℕ). apart t d) x ∙ ap (apart a) y ∙ e))

  looked-at : (a b : ℕ) (m : Pair) → IsPair apart n a b → KeptBefore a b m → KeptBefore a (suc b) (further m (pair_of distance a b))
  looked-at a b m p k = kept-further distance either (wider a b) (λ c d q. rw (q.0, q.1) (p, inr (refl, omega arith))) k alone (not_after a b)
    where
      either : (c d : ℕ) → PairBefore a (suc b) c d → PairBefore a b c d ⊎ ((c ≡ a) × (d ≡ b))
      either c d (p, q) = go (next a b c d q)
        where
          go : Before a b c d ⊎ ((c ≡ a) × (d ≡ b)) → PairBefore a b c d ⊎ ((c ≡ a) × (d ≡ b))
          go (inl r) = inl (p, r)
          go (inr r) = inr r

      alone : IsLargest (λ (c d : ℕ). (c ≡ a) × (d ≡ b)) distance a b
      alone = record { pair = (refl, refl); largest = λ c d q. rw (q.0, q.1) (omega arith); earliest = λ c d q e. inr (sym q.0, omega (arith, q.1)) }

  one_more : (a b : ℕ) (m : Pair) → a < b → b < n → KeptBefore a b m → KeptBefore a (suc b) (looked apart distance m a b)
  one_more a b m l h k = go (apart a b) refl
    where
      go : (t : Bool) → apart a b ≡ t → KeptBefore a (suc b) (cond t (further m (pair_of distance a b)) m)
      go true e = looked-at a b m (record { ordered = l; inside = h; one_place = e }) k
      go false e = passed_over a b m e k

  all_seconds : (c : ℕ) (m : Pair) (a b : ℕ) → a < b → b + c ≡ n → KeptBefore a b m → KeptBefore a n (with_seconds apart distance c m a b)
  unfolding with_seconds
  all_seconds zero m a b l h k = let e : b ≡ n = omega arith in rw e at k
  all_seconds (suc c) m a b l h k = all_seconds c (looked apart distance m a b) a (suc b) (omega arith) (omega arith) (one_more a b m l (omega arith) k)

  -- one more first: all its seconds are looked at
  next-first : (a : ℕ) (m : Pair) → KeptBefore a n m → KeptBefore (suc a) (suc (suc a)) m
  next-first a m = kept_same distance to (λ c d r. (r.0, from c d r.0 r.1))
    where
      to : (c d : ℕ) → PairBefore a n c d → PairBefore (suc a) (suc (suc a)) c d
      to c d (p, inl l) = (p, inl (omega arith))
      to c d (p, inr (e, l)) = (p, inl (omega arith))

      from : (c d : ℕ) → IsPair apart n c d → Before (suc a) (suc (suc a)) c d → Before a n c d
      from c d p (inl l) = go (ℕ_discrete c a)
        where
          go : Dec (c ≡ a) → Before a n c d
          go (yes q) = inr (q, p.inside)
          go (no q) = inl (omega arith)
      from c d p (inr (e, l)) = absurd (omega (arith, p.ordered))

  all_firsts : (c : ℕ) (m : Pair) (a : ℕ) → a + c ≡ n → KeptBefore a (suc a) m → KeptBefore n (suc n) (with_firsts apart distance c m a)
  unfolding with_firsts
  all_firsts zero m a h k = let e : a ≡ n = omega arith in rw e at k
  all_firsts (suc c) m a h k = all_firsts c (with_seconds apart distance c m a (suc a)) (suc a) (omega arith) (next-first a _ (all_seconds c m a (suc a) (omega arith) (omega arith) k))

  none_before : (c d : ℕ) → PairBefore 0 1 c d → ⊥
  none_before c d (p, inl l) = omega arith
  none_before c d (p, inr (e, l)) = omega (arith, p.ordered)

  pub first-kept : Kept no_pair (IsPair apart n) distance (first_largest apart distance n)
  unfolding first_largest
  first-kept = kept_same distance (λ c d r. r.0) (λ c d p. (p, inl (omega (arith, p.ordered, p.inside)))) (all_firsts n no_pair 0 (omega arith) (nothing refl none_before))

-- two tests and two distances that agree on all pairs
pub first-same : (apart other : ℕ → ℕ → Bool) (distance far : ℕ → ℕ → ℕ) (n : ℕ) → ((i j : ℕ) → i < j → j < n → apart i j ≡ other i j) → ((i j : ℕ) → i < j → j < n → distance i j ≡ far i j) → first_largest apart distance n ≡ first_largest other far n
first-same apart other distance far n same alike =
    kept-once far
    (kept-alike distance far (λ i j p. alike i j p.ordered p.inside)
    (kept_same distance
    (λ i j p. record { ordered = p.ordered; inside = p.inside; one_place = sym (same i j p.ordered p.inside) ∙ p.one_place })
    (λ i j p. record { ordered = p.ordered; inside = p.inside; one_place = same i j p.ordered p.inside ∙ p.one_place })
    (first-kept apart distance n)))
    (first-kept other far n)
