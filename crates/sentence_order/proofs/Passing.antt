-- Laws of the numbers of 1 to n that pass a test. Assumes nothing.
use mathlib.Core.Path.{◌≡◌, refl, sym, ap, ap₂, ◌∙◌}
use mathlib.Core.Logic.{◌⊎◌, inl, inr}
use mathlib.Core.Bool.{Bool, true, false, cond, false≢true}
use mathlib.Core.List.{List, [], ◌∷◌, ◌++◌, append-nil}
use Prim.Native.Nat.{ℕ, zero, suc, ◌+◌, ◌≤◌, ◌<◌}
use native.Mathlib.Decide.{ℕ_discrete}
use native.Mathlib.Omega.{arith}
use lib.ListN.{length, get_or, length-append, get_or-append}
use lib.Seq.{get_or-append_seam}
use Rattle.integer.proofs.Ranges.{lt_or_ge}
use Rattle.sentence_order.specs.Sentences.{passing}

module _ (P : ℕ → Bool) where
  pub passing-more : (n : ℕ) → P (suc n) ≡ true → passing P (suc n) ≡ passing P n ++ (suc n ∷ [])
  unfolding passing
  passing-more n e = rw e

  pub passing_skip : (n : ℕ) → P (suc n) ≡ false → passing P (suc n) ≡ passing P n
  unfolding passing
  passing_skip n e = rw e (append-nil (passing P n))

  pub passing_grows : (m n : ℕ) → m ≤ n → length (passing P m) ≤ length (passing P n)
  passing_grows m zero h = let z : m ≡ 0 = omega arith in rw z (omega arith)
  passing_grows m (suc n) h = go (P (suc n)) refl (ℕ_discrete m (suc n)) (passing_grows m n)
    where
      go : (b : Bool) → P (suc n) ≡ b → Dec (m ≡ suc n) → (m ≤ n → length (passing P m) ≤ length (passing P n)) → length (passing P m) ≤ length (passing P (suc n))
      go b e (yes q) ih = rw q (omega arith)
      go true e (no q) ih = rw (passing-more n e) (omega (arith, ih (omega arith), length-append (passing P n) (suc n ∷ [])))
      go false e (no q) ih = rw (passing_skip n e) (ih (omega arith))

  -- where no number above m passes
  pub passing_stops : (m n : ℕ) → m ≤ n → ((v : ℕ) → m < v → v ≤ n → P v ≡ false) → passing P n ≡ passing P m
  passing_stops m zero h f = let e : 0 ≡ m = omega arith in ap (passing P) e
  passing_stops m (suc n) h f = go (ℕ_discrete m (suc n)) (passing_stops m n)
    where
      go : Dec (m ≡ suc n) → (m ≤ n → ((v : ℕ) → m < v → v ≤ n → P v ≡ false) → passing P n ≡ passing P m) → passing P (suc n) ≡ passing P m
      go (yes q) ih = ap (passing P) (sym q)
      go (no q) ih = passing_skip n (f (suc n) (omega arith) (omega arith)) ∙ ih (omega arith) (λ v l k. f v l (omega arith))

pub passing-same : (P Q : ℕ → Bool) → ((w : ℕ) → P w ≡ Q w) → (n : ℕ) → passing P n ≡ passing Q n
unfolding passing
passing-same P Q f zero = refl
passing-same P Q f (suc n) = ap₂ (λ (l : List ℕ) (b : Bool). l ++ cond b (suc n ∷ []) []) (passing-same P Q f n) (f (suc n))

-- ---- which numbers they are

pub record Among (P : ℕ → Bool) (n w : ℕ) : Type 0 where
  pub low : 1 ≤ w
  pub high : w ≤ n
  pub passes : P w ≡ true

module _ (P : ℕ → Bool) where
  pub passing-each : (n i : ℕ) → i < length (passing P n) → Among P n (get_or (passing P n) i 0)
  passing-each zero i h = absurd (unfold passing in omega arith)
  passing-each (suc n) i h = go (P (suc n)) refl (passing-each n i)
    where
      wider : {w : ℕ} → Among P n w → Among P (suc n) w
      wider a = record { low = a.low; high = omega (arith, a.high); passes = a.passes }

      go : (b : Bool) → P (suc n) ≡ b → (i < length (passing P n) → Among P n (get_or (passing P n) i 0)) → Among P (suc n) (get_or (passing P (suc n)) i 0)
      go false e ih = rw (passing_skip P n e) (wider (ih (rw (passing_skip P n e) at h)))
      go true e ih = rw (passing-more P n e) (last (lt_or_ge i (length (passing P n))))
        where
          size : i < length (passing P n) + 1
          size = omega (arith, h, ap length (passing-more P n e), length-append (passing P n) (suc n ∷ []))

          last : (i < length (passing P n)) ⊎ (length (passing P n) ≤ i) → Among P (suc n) (get_or (passing P n ++ (suc n ∷ [])) i 0)
          last (inl l) = rw (get_or-append (passing P n) (suc n ∷ []) 0 i l) (wider (ih l))
          last (inr l) = let z : i ≡ length (passing P n) = omega (arith, size) in rw (z, get_or-append_seam (passing P n) (suc n) [] 0) (record { low = omega arith; high = omega arith; passes = e })

  pub passing-every : (n w : ℕ) → Among P n w → (i : ℕ) × ((i < length (passing P n)) × (get_or (passing P n) i 0 ≡ w))
  passing-every zero w a = absurd (omega (arith, a.low, a.high))
  passing-every (suc n) w a = go (P (suc n)) refl (ℕ_discrete w (suc n)) (passing-every n w)
    where
      below : (w ≡ suc n → ⊥) → Among P n w
      below q = record { low = a.low; high = omega (arith, a.high); passes = a.passes }

      Found : List ℕ → Type 0
      Found l = (i : ℕ) × ((i < length l) × (get_or l i 0 ≡ w))

      go : (b : Bool) → P (suc n) ≡ b → Dec (w ≡ suc n) → (Among P n w → Found (passing P n)) → Found (passing P (suc n))
      go false e (yes q) ih = absurd (false≢true (sym e ∙ ap P (sym q) ∙ a.passes))
      go false e (no q) ih = rw (passing_skip P n e) (ih (below q))
      go true e (yes q) ih = rw (passing-more P n e) (length (passing P n), (omega (arith, length-append (passing P n) (suc n ∷ [])), get_or-append_seam (passing P n) (suc n) [] 0 ∙ sym q))
      go true e (no q) ih =
          let f = ih (below q) in
          rw (passing-more P n e) (f.0, (omega (arith, f.1.0, length-append (passing P n) (suc n ∷ [])), get_or-append (passing P n) (suc n ∷ []) 0 f.0 f.1.0 ∙ f.1.1))

  pub passing-ascends : (n i j : ℕ) → i < j → j < length (passing P n) → get_or (passing P n) i 0 < get_or (passing P n) j 0
  passing-ascends zero i j l h = absurd (unfold passing in omega arith)
  passing-ascends (suc n) i j l h = go (P (suc n)) refl (passing-ascends n i j l)
    where
      go : (b : Bool) → P (suc n) ≡ b → (j < length (passing P n) → get_or (passing P n) i 0 < get_or (passing P n) j 0) → get_or (passing P (suc n)) i 0 < get_or (passing P (suc n)) j 0
      go false e ih = rw (passing_skip P n e) (ih (rw (passing_skip P n e) at h))
      go true e ih = rw (passing-more P n e) (last (lt_or_ge j (length (passing P n))))
        where
          size : j < length (passing P n) + 1
          size = omega (arith, h, ap length (passing-more P n e), length-append (passing P n) (suc n ∷ []))

          last : (j < length (passing P n)) ⊎ (length (passing P n) ≤ j) → get_or (passing P n ++ (suc n ∷ [])) i 0 < get_or (passing P n ++ (suc n ∷ [])) j 0
          last (inl m) = rw (get_or-append (passing P n) (suc n ∷ []) 0 i (omega arith), get_or-append (passing P n) (suc n ∷ []) 0 j m) (ih m)
          last (inr m) =
              let z : j ≡ length (passing P n) = omega (arith, size) in
              let s : i < length (passing P n) = omega arith in
              rw (get_or-append (passing P n) (suc n ∷ []) 0 i s, z, get_or-append_seam (passing P n) (suc n) [] 0) (omega (arith, (passing-each n i s).high))
