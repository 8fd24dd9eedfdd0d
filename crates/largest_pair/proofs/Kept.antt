-- The pair that is kept as more and more pairs are looked at. Assumes nothing.
use mathlib.Core.Path.{◌≡◌, refl, sym, ap, ap₂, ◌∙◌}
use mathlib.Core.Logic.{◌⊎◌, inl, inr}
use mathlib.Core.Bool.{Bool, true, false, cond, ◌&&◌, ◌||◌}
use Prim.Native.Nat.{ℕ, suc, ◌≤◌, ◌<◌}
use native.Mathlib.Omega.{arith}
use lib.Dec.{eqb, ltb}
use borrow.Author.Tests.{ne_eqb, ltb-true, ltb-false, eqb-true, eqb-false}
use lib.IntN.{pos}
use lib.Signed.{lt_z}
use Rattle.integer.proofs.Ranges.{lt_or_ge}
use Rattle.group_pairs.specs.declared.Pair.{Pair}
use Rattle.group_pairs.specs.Pairs.{pair_of, NotAfter, IsLargest}
use Rattle.largest_pair.specs.Pairs.{no_pair, further}
use Rattle.largest_pair.specs.Inner.{none_yet, better, Kept, nothing, something}

-- ---- what `better` gives where the second lies further apart

module _ (m c : Pair) where
  pub further-better : lt_z m.distance c.distance ≡ true → c ≡ better m c
  unfolding better
  further-better e = rw e

-- ---- one pair before another

-- (i, j) lies further apart than (a, b), or as far and does not come after it
abbrev pub Beats : (ℕ → ℕ → ℕ) → ℕ → ℕ → ℕ → ℕ → Type 0
Beats distance i j a b = (distance a b < distance i j) ⊎ ((distance a b ≡ distance i j) × NotAfter i j a b)

not-after_trans : (i j a b c d : ℕ) → NotAfter i j a b → NotAfter a b c d → NotAfter i j c d
not-after_trans i j a b c d (inl l) (inl m) = inl (omega arith)
not-after_trans i j a b c d (inl l) (inr (e, m)) = inl (omega arith)
not-after_trans i j a b c d (inr (e, l)) (inl m) = inl (omega arith)
not-after_trans i j a b c d (inr (e, l)) (inr (f, m)) = inr (e ∙ f, omega arith)

same-pair : (i j a b : ℕ) → NotAfter i j a b → NotAfter a b i j → (i ≡ a) × (j ≡ b)
same-pair i j a b (inl l) (inl m) = absurd (omega arith)
same-pair i j a b (inl l) (inr (f, m)) = absurd (omega arith)
same-pair i j a b (inr (e, l)) (inl m) = absurd (omega arith)
same-pair i j a b (inr (e, l)) (inr (f, m)) = (e, omega arith)

module _ (distance : ℕ → ℕ → ℕ) where
  beats_trans : (i j a b c d : ℕ) → Beats distance i j a b → Beats distance a b c d → Beats distance i j c d
  beats_trans i j a b c d (inl l) (inl m) = inl (omega arith)
  beats_trans i j a b c d (inl l) (inr (f, m)) = inl (omega arith)
  beats_trans i j a b c d (inr (e, l)) (inl m) = inl (omega arith)
  beats_trans i j a b c d (inr (e, l)) (inr (f, m)) = inr (f ∙ e, not-after_trans i j a b c d l m)

  -- ---- the largest of the pairs that P holds of

  module _ {P : ℕ → ℕ → Type 0} {i j : ℕ} where
    beats_all : IsLargest P distance i j → (a b : ℕ) → P a b → Beats distance i j a b
    beats_all f a b p = go (lt_or_ge (distance a b) (distance i j))
      where
        go : (distance a b < distance i j) ⊎ (distance i j ≤ distance a b) → Beats distance i j a b
        go (inl l) = inl l
        go (inr l) = let e : distance a b ≡ distance i j = omega (arith, f.largest a b p) in inr (e, f.earliest a b p e)

    all_beaten : P i j → ((a b : ℕ) → P a b → Beats distance i j a b) → IsLargest P distance i j
    all_beaten p f = record { pair = p; largest = λ a b q. far a b (f a b q); earliest = λ a b q e. early a b e (f a b q) }
      where
        far : (a b : ℕ) → Beats distance i j a b → distance a b ≤ distance i j
        far a b (inl l) = omega arith
        far a b (inr (e, n)) = omega arith

        early : (a b : ℕ) → distance a b ≡ distance i j → Beats distance i j a b → NotAfter i j a b
        early a b e (inl l) = absurd (omega arith)
        early a b e (inr (q, n)) = n

  -- there is only one
  one-largest : {P : ℕ → ℕ → Type 0} {i j a b : ℕ} → IsLargest P distance i j → IsLargest P distance a b → (i ≡ a) × (j ≡ b)
  one-largest {P} {i} {j} {a} {b} f g =
      let e : distance a b ≡ distance i j = omega (arith, f.largest a b g.pair, g.largest i j f.pair) in
      same-pair i j a b (f.earliest a b g.pair e) (g.earliest i j f.pair (sym e))

  pub kept-one : {P : ℕ → ℕ → Type 0} {none other : Pair} {m c : Pair} (a b : ℕ) → P a b → Kept none P distance m → Kept other P distance c → m ≡ c
  kept-one a b p (nothing e f) y = absurd (f a b p)
  kept-one a b p (something i j e f) (nothing q g) = absurd (g a b p)
  kept-one a b p (something i j e f) (something x y q g) = let s = one-largest f g in e ∙ ap₂ (pair_of distance) s.0 s.1 ∙ sym q

  pub kept-once : {P : ℕ → ℕ → Type 0} {none m c : Pair} → Kept none P distance m → Kept none P distance c → m ≡ c
  kept-once (nothing e f) (nothing q g) = e ∙ sym q
  kept-once (nothing e f) (something x y q g) = absurd (f x y g.pair)
  kept-once {none = none} (something i j e f) k = kept-one {none = none} i j f.pair (something i j e f) k

  -- ---- the same pairs

  pub kept_same : {P Q : ℕ → ℕ → Type 0} {none m : Pair} → ((a b : ℕ) → P a b → Q a b) → ((a b : ℕ) → Q a b → P a b) → Kept none P distance m → Kept none Q distance m
  kept_same to from (nothing e f) = nothing e (λ a b q. f a b (from a b q))
  kept_same to from (something i j e f) = something i j e (record { pair = to i j f.pair; largest = λ a b q. f.largest a b (from a b q); earliest = λ a b q. f.earliest a b (from a b q) })

  -- and the same distances
  pub kept-alike : {P : ℕ → ℕ → Type 0} {none m : Pair} (far : ℕ → ℕ → ℕ) → ((a b : ℕ) → P a b → distance a b ≡ far a b) → Kept none P distance m → Kept none P far m
  kept-alike far same (nothing e f) = nothing e f
  kept-alike far same (something i j e f) = something i j (e ∙ ap (λ (n : ℕ). record { distance = pos n; first = suc i; second = suc j }) (same i j f.pair)) (record {
    pair = f.pair;
    largest = λ a b p. omega (arith, same a b p, same i j f.pair, f.largest a b p);
    earliest = λ a b p q. f.earliest a b p (same a b p ∙ q ∙ sym (same i j f.pair));
  })

  -- ---- the pairs of P, and those of Q behind them

  module _ {P Q R : ℕ → ℕ → Type 0} (either : (a b : ℕ) → R a b → P a b ⊎ Q a b) (left : (a b : ℕ) → P a b → R a b) (right : (a b : ℕ) → Q a b → R a b) where
    both_beaten : {i j : ℕ} → R i j → ((a b : ℕ) → P a b → Beats distance i j a b) → ((a b : ℕ) → Q a b → Beats distance i j a b) → IsLargest R distance i j
    both_beaten {i} {j} r f g = all_beaten r (λ a b h. go a b (either a b h))
      where
        go : (a b : ℕ) → P a b ⊎ Q a b → Beats distance i j a b
        go a b (inl p) = f a b p
        go a b (inr q) = g a b q

    pub stays : {i j : ℕ} → IsLargest P distance i j → ((a b : ℕ) → Q a b → Beats distance i j a b) → IsLargest R distance i j
    stays {i} {j} f g = both_beaten (left i j f.pair) (beats_all f) g

    taken : {i j : ℕ} → IsLargest Q distance i j → ((a b : ℕ) → P a b → Beats distance i j a b) → IsLargest R distance i j
    taken {i} {j} f g = both_beaten (right i j f.pair) g (beats_all f)

    module _ {none : Pair} {a b : ℕ} (next : IsLargest Q distance a b) where
      kept_stays : {i j : ℕ} → IsLargest P distance i j → Beats distance i j a b → Kept none R distance (pair_of distance i j)
      kept_stays {i} {j} f g = something i j refl (stays f (λ c d q. beats_trans i j a b c d g (beats_all next c d q)))

      kept-taken : {i j : ℕ} → IsLargest P distance i j → Beats distance a b i j → Kept none R distance (pair_of distance a b)
      kept-taken {i} {j} f g = something a b refl (taken next (λ c d p. beats_trans a b i j c d g (beats_all f c d p)))

      first_taken : ((c d : ℕ) → P c d → ⊥) → Kept none R distance (pair_of distance a b)
      first_taken f = something a b refl (taken next (λ c d p. absurd (f c d p)))

    -- by `better`
    pub kept-better : {m : Pair} {a b : ℕ} → Kept none_yet P distance m → IsLargest Q distance a b → Kept none_yet R distance (better m (pair_of distance a b))
    unfolding better
    kept-better (nothing e f) next = rw e (first_taken next f)
    kept-better {a = a} {b = b} (something i j e f) next =
        rw e (go (ltb (distance i j) (distance a b)) (eqb (distance i j) (distance a b)) (ltb (suc a) (suc i)) (eqb (suc a) (suc i)) (ltb (suc b) (suc j)) refl refl refl refl refl)
      where
        go : (x y z u v : Bool) → ltb (distance i j) (distance a b) ≡ x → eqb (distance i j) (distance a b) ≡ y → ltb (suc a) (suc i) ≡ z → eqb (suc a) (suc i) ≡ u → ltb (suc b) (suc j) ≡ v → Kept none_yet R distance (cond (x || (y && (z || (u && v)))) (pair_of distance a b) (pair_of distance i j))
        go true y z u v p q r s t = kept-taken next f (inl (ltb-true (distance i j) (distance a b) p))
        go false false z u v p q r s t = kept_stays next f (inl (omega (arith, ltb-false (distance i j) (distance a b) p, eqb-false (distance i j) (distance a b) q)))
        go false true true u v p q r s t = kept-taken next f (inr (eqb-true _ _ q, inl (omega (arith, ltb-true (suc a) (suc i) r))))
        go false true false false v p q r s t = kept_stays next f (inr (sym (eqb-true _ _ q), inl (omega (arith, ltb-false (suc a) (suc i) r, eqb-false (suc a) (suc i) s))))
        go false true false true true p q r s t = kept-taken next f (inr (eqb-true _ _ q, inr (omega (arith, eqb-true (suc a) (suc i) s), omega (arith, ltb-true (suc b) (suc j) t))))
        go false true false true false p q r s t = kept_stays next f (inr (sym (eqb-true _ _ q), inr (omega (arith, eqb-true (suc a) (suc i) s), omega (arith, ltb-false (suc b) (suc j) t))))

    -- by `further`, where the pairs of Q come after those of P
    pub kept-further : {m : Pair} {a b : ℕ} → Kept no_pair P distance m → IsLargest Q distance a b → ((c d : ℕ) → P c d → NotAfter c d a b) → Kept no_pair R distance (further m (pair_of distance a b))
    unfolding further
    kept-further (nothing e f) next after = rw e (first_taken next f)
    kept-further {a = a} {b = b} (something i j e f) next after = rw e (rw (ne_eqb (suc i) 0 (λ z. omega arith)) (go (ltb (distance i j) (distance a b)) refl (lt_or_ge (distance a b) (distance i j))))
      where
        go : (t : Bool) → ltb (distance i j) (distance a b) ≡ t → (distance a b < distance i j) ⊎ (distance i j ≤ distance a b) → Kept no_pair R distance (cond t (pair_of distance a b) (pair_of distance i j))
        go true q o = kept-taken next f (inl (ltb-true _ _ q))
        go false q (inl l) = kept_stays next f (inl l)
        go false q (inr l) = kept_stays next f (inr (omega (arith, ltb-false (distance i j) (distance a b) q), after i j f.pair))
