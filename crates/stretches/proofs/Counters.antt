-- Laws of the counters, and that five counts make all. Assumes nothing.
use mathlib.Core.Path.{◌≡◌, refl, sym, ap, subst, ◌∙◌}
use mathlib.Core.Logic.{◌⊎◌, inl, inr}
use mathlib.Core.Bool.{Bool, true, false, cond}
use mathlib.Core.List.{List, [], ◌∷◌, ◌++◌}
use Prim.Native.Nat.{ℕ, ◌+◌, ◌/◌, ◌%◌, ◌≤◌, ◌<◌}
use native.Mathlib.Omega.{arith}
use lib.ListN.{length, get_or, replicate, length-set, get_or-replicate, get_or-eq_default}
use lib.Seq.{get_or-set_same, get_or-set_other}
use lib.Dec.{eqb}
use borrow.Author.Tests.{eqb-true, eqb-false, eq-eqb, ne_eqb}
use Rattle.integer.proofs.Ranges.{lt_or_ge}
use Rattle.backoff.specs.Counts.{has_matched, says_unknown, count}
use Rattle.backoff.proofs.Counts.{count_append, count-one, count_le}
use Rattle.stretches.specs.declared.Counts.{Counts}
use Rattle.stretches.specs.Inner.{counted, Tallied}

-- the bit that tells an unknown word, as a number
unknown-bit : (byte : ℕ) → cond (says_unknown byte) 1 0 ≡ byte / 8 % 2
unknown-bit byte = go (says_unknown byte) refl
  where
    go : (b : Bool) → says_unknown byte ≡ b → cond b 1 0 ≡ byte / 8 % 2
    go true e = sym (eqb-true _ _ e)
    go false e = let n = eqb-false (byte / 8 % 2) 1 e in omega arith

-- ---- the counters

pub tallied-none : Tallied [] [] (record { matched = replicate 8 0; unknown = 0 })
unfolding count
tallied-none = record { eight = refl; each = λ k h. get_or-replicate 8 k 0 0 h; unknown = refl }

-- none is further than n
pub record Small (counts : Counts) (n : ℕ) : Type 0 where
  pub matched : (k : ℕ) → get_or counts.matched k 0 ≤ n
  pub unknown : counts.unknown ≤ n

-- no counter gets further than there are bytes
pub tallied_small : (bytes words : List ℕ) (counts : Counts) → Tallied bytes words counts → Small counts (length bytes + length words)
tallied_small bytes words counts t = record { matched = λ k. go k (lt_or_ge k 8); unknown = omega (arith, t.unknown, count_le says_unknown words) }
  where
    go : (k : ℕ) → (k < 8) ⊎ (8 ≤ k) → get_or counts.matched k 0 ≤ length bytes + length words
    go k (inl h) = omega (arith, t.each k h, count_le (has_matched k) bytes)
    go k (inr h) = omega (arith, get_or-eq_default counts.matched 0 {n = k} (omega (arith, t.eight)))

module _ (byte : ℕ) (counts : Counts) (eight : length counts.matched ≡ 8) where
  pub counted-long : length (counted byte counts).matched ≡ 8
  counted-long = length-set counts.matched (byte % 8) _ ∙ eight

  counted-own : get_or (counted byte counts).matched (byte % 8) 0 ≡ get_or counts.matched (byte % 8) 0 + 1
  counted-own = get_or-set_same counts.matched (byte % 8) (get_or counts.matched (byte % 8) 0 + 1) 0 (omega arith)

  counted-other : (k : ℕ) → (k ≡ byte % 8 → ⊥) → get_or (counted byte counts).matched k 0 ≡ get_or counts.matched k 0
  counted-other k n = get_or-set_other counts.matched (byte % 8) k (get_or counts.matched (byte % 8) 0 + 1) 0 n

  -- no counter gets further than by one
  pub counted_small : (n : ℕ) → Small counts n → Small (counted byte counts) (n + 1)
  counted_small n h = record { matched = λ k. go k (eqb k (byte % 8)) refl; unknown = omega (arith, h.unknown) }
    where
      go : (k : ℕ) → (b : Bool) → eqb k (byte % 8) ≡ b → get_or (counted byte counts).matched k 0 ≤ n + 1
      go k true f = rw (eqb-true k (byte % 8) f) (omega (arith, counted-own, h.matched (byte % 8)))
      go k false f = omega (arith, counted-other k (eqb-false _ _ f), h.matched k)

  -- one more byte of that matched length, and so many more of unknown words
  tallied-more : (bytes words : List ℕ) → Tallied bytes words counts → (own : ℕ) → own % 8 ≡ byte % 8 → (unknown : List ℕ) → count says_unknown unknown ≡ byte / 8 % 2 → Tallied (bytes ++ (own ∷ [])) (words ++ unknown) (counted byte counts)
  tallied-more bytes words t own same unknown bit = record {
    eight = counted-long;
    each = λ k h. go k h (eqb k (byte % 8)) refl;
    unknown = omega (arith, t.unknown, bit, count_append says_unknown words unknown);
  }
    where
      go : (k : ℕ) → k < 8 → (b : Bool) → eqb k (byte % 8) ≡ b → get_or (counted byte counts).matched k 0 ≡ count (has_matched k) (bytes ++ (own ∷ []))
      go k h true e =
          let k-is = eqb-true k (byte % 8) e in
          subst (λ (j : ℕ). get_or (counted byte counts).matched j 0 ≡ get_or counts.matched j 0 + 1) (sym k-is) counted-own
          ∙ ap (λ (n : ℕ). n + 1) (t.each k h)
          ∙ sym (count-one (has_matched k) bytes own ∙ rw (eq-eqb (own % 8) k (same ∙ sym k-is)))
      go k h false e =
          let n = eqb-false k (byte % 8) e in
          counted-other k n
          ∙ t.each k h
          ∙ sym (count-one (has_matched k) bytes own ∙ rw (ne_eqb (own % 8) k (λ f. n (sym f ∙ same))) (omega arith))

-- a word's byte, and the matched length of a closing 3's
pub tallied-word : (bytes words : List ℕ) (counts : Counts) → Tallied bytes words counts → (byte : ℕ) → Tallied (bytes ++ (byte ∷ [])) (words ++ (byte ∷ [])) (counted byte counts)
tallied-word bytes words counts t byte = tallied-more byte counts t.eight bytes words t byte refl (byte ∷ []) (unfold count in omega (arith, unknown-bit byte))

pub tallied_closing : (bytes : List ℕ) (counts : Counts) → Tallied bytes [] counts → (byte : ℕ) → Tallied (bytes ++ (byte ∷ [])) [] (counted (byte % 8) counts)
tallied_closing bytes counts t byte = tallied-more (byte % 8) counts t.eight bytes [] t byte (omega arith) [] (unfold count in omega arith)
