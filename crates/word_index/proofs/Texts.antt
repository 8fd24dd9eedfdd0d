-- Laws of the texts of a store, of their comparison, and of the linear search. Assumes nothing.
use Rattle.std.specs.declared.option.Option.TheVariants.{Some, None}
use mathlib.Core.Path.{◌≡◌, refl, sym, ap, ◌∙◌}
use mathlib.Core.Logic.{⊎_elim}
use mathlib.Core.Bool.{Bool, true, false, cond, ◌&&◌, true≢false}
use mathlib.Core.List.{List, [], ◌∷◌}
use lib.Pointwise.{pointwise}
use Rattle.std.proofs.Common.{nat_eq}
use Prim.Native.Nat.{ℕ, zero, suc, ◌+◌, ◌*◌, ◌-◌, ◌<◌, ◌≤◌}
use native.Mathlib.Omega.{arith}
use native.Mathlib.Numerals.{add-one}
use lib.Dec.{eqb}
use lib.ListN.{length, get_or, drop, length-drop}
use lib.Seq.{length-take-le, get_or-take, get_or-drop}
use Rattle.integer.proofs.Ranges.{lt_or_ge}
use Rattle.backoff.specs.Words.{same_words}
use Rattle.backoff.proofs.Words.{same_refl, same_ne, same_step}
use Rattle.word_index.specs.Texts.{text_of, texts_from, texts_of, search_from, record_with}
use Rattle.backoff.specs.Limits.{text_limit}

-- ---- the linear search
module _ (s text : List ℕ) where
  search-none : (k n : ℕ) → ((j : ℕ) → k ≤ j → j < k + n → text_of s j ≡ text → ⊥) → search_from text k (texts_from s k n) ≡ None
  unfolding search_from texts_from
  search-none k zero h = refl
  search-none k (suc n) h =
      rw (same_ne text (text_of s k) (λ e. h k (omega arith) (omega arith) (sym e)))
      (search-none (suc k) n (λ j a b. h j (omega arith) (omega arith)))

  search-at : (k n j : ℕ) → k ≤ j → j < k + n → text_of s j ≡ text → ((i : ℕ) → k ≤ i → i < j → text_of s i ≡ text → ⊥) → search_from text k (texts_from s k n) ≡ Some j
  unfolding search_from texts_from
  search-at k zero j l m e h = absurd (omega arith)
  search-at k (suc n) j l m e h =
      ⊎_elim
      (λ (p : k < j).
      rw (same_ne text (text_of s k) (λ f. h k (omega arith) p (sym f)))
      (search-at (suc k) n j (omega arith) (omega arith) e (λ i a b. h i (omega arith) b)))
      (λ (p : j ≤ k).
      let q : j ≡ k = omega arith in
      rw (← e, ← q, same_refl (text_of s j)) refl)
      (lt_or_ge k j)

  pub search-absent : (k n : ℕ) → search_from text k (texts_from s k n) ≡ None → (j : ℕ) → k ≤ j → j < k + n → text_of s j ≡ text → ⊥
  unfolding search_from texts_from
  search-absent k zero f j l m e = absurd (omega arith)
  search-absent k (suc n) f j l m e = go (same_words text (text_of s k)) refl f (λ g p. search-absent (suc k) n g j p (omega arith) e)
    where
      go : (t : Bool) → same_words text (text_of s k) ≡ t → cond t (Some k) (search_from text (suc k) (texts_from s (suc k) n)) ≡ None
          → (search_from text (suc k) (texts_from s (suc k) n) ≡ None → suc k ≤ j → ⊥) → ⊥
      go true q g r = let z : ◌≡◌ {A = ℕ} 0 1 = cc in omega arith
      go false q g r =
          ⊎_elim (r g)
          (λ (p : j ≤ k).
          let i : j ≡ k = omega arith in
          true≢false (sym (same_refl text) ∙ ap (λ (x : List ℕ). same_words text x) (sym e ∙ ap (text_of s) i) ∙ q))
          (lt_or_ge k j)

-- ---- the same for the words of a store
module _ (s text : List ℕ) (words : ℕ) (start : 4 ≤ words) where
  pub number-none : ((j : ℕ) → 4 ≤ j → j < words → text_of s j ≡ text → ⊥) → record_with s words text ≡ None
  unfolding record_with texts_of
  number-none h = search-none s text 4 (words - 4) (λ j a b. h j a (omega arith))

  pub number_at : (j : ℕ) → 4 ≤ j → j < words → text_of s j ≡ text → ((i : ℕ) → 4 ≤ i → i < j → text_of s i ≡ text → ⊥) → record_with s words text ≡ Some j
  unfolding record_with texts_of
  number_at j a b e h = search-at s text 4 (words - 4) j a (omega arith) e h

  pub number-absent : record_with s words text ≡ None → (j : ℕ) → 4 ≤ j → j < words → text_of s j ≡ text → ⊥
  unfolding record_with texts_of
  number-absent f j a b e = search-absent s text 4 (words - 4) f j a (omega arith) e

-- texts compared by `==` are those that are the same words
pub equal_texts : (us vs : List ℕ) → pointwise nat_eq us vs ≡ same_words us vs
unfolding same_words
equal_texts [] [] = refl
equal_texts [] (v ∷ vs) = refl
equal_texts (u ∷ us) [] = refl
equal_texts (u ∷ us) (v ∷ vs) = ap (λ t. nat_eq u v && t) (equal_texts us vs)
