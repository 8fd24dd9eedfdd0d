-- Laws of the search for a text in a list of texts, and of the same without an index. Assumes nothing.
use Rattle.std.specs.declared.option.Option.TheVariants.{Some, None}
use mathlib.Core.Path.{◌≡◌, refl, sym, ap, ◌∙◌}
use mathlib.Core.Logic.{◌⊎◌, inl, inr}
use mathlib.Core.Bool.{Bool, true, false, cond, true≢false}
use mathlib.Core.List.{List, [], ◌∷◌}
use Prim.Native.Nat.{ℕ, zero, suc, ◌+◌, ◌-◌, ◌<◌, ◌≤◌}
use native.Mathlib.Omega.{arith}
use native.Mathlib.Numerals.{add-one}
use lib.ListN.{length, get_or}
use Rattle.backoff.specs.Words.{same_words}
use Rattle.backoff.proofs.Words.{same_eq, same_refl}
use Rattle.word_index.specs.Texts.{text_of, texts_from, texts_of, search_from, record_with}

abbrev pub Absent : List ℕ → List (List ℕ) → Type 0
Absent text us = (j : ℕ) → j < length us → get_or us j [] ≡ text → ⊥

-- the text is found at place j of the texts, which are counted from k
pub record Placed (text : List ℕ) (k : ℕ) (us : List (List ℕ)) (j : ℕ) : Type 0 where
  pub found : search_from text k us ≡ Some (k + j)
  pub inside : j < length us
  pub same : get_or us j [] ≡ text

pub search_told : (text : List ℕ) (k : ℕ) (us : List (List ℕ)) → ((search_from text k us ≡ None) × Absent text us) ⊎ ((j : ℕ) × Placed text k us j)
unfolding search_from
search_told text k [] = inl (refl, λ j l e. absurd (omega arith))
search_told text k (u ∷ us) = go (same_words text u) refl (search_told text (suc k) us)
  where
    go : (t : Bool) → same_words text u ≡ t → ((search_from text (suc k) us ≡ None) × Absent text us) ⊎ ((j : ℕ) × Placed text (suc k) us j)
        → ((cond t (Some k) (search_from text (suc k) us) ≡ None) × Absent text (u ∷ us)) ⊎ ((j : ℕ) × Placed text k (u ∷ us) j)
    go true e i = inr (0, record { found = let z : k + 0 ≡ k = omega arith in rw (e, z) refl; inside = omega arith; same = sym (same_eq text u e) })
    go false e (inl (n, a)) = inl (n, λ j l f. absent j l f)
      where
        absent : (j : ℕ) → j < suc (length us) → get_or (u ∷ us) j [] ≡ text → ⊥
        absent zero l f = true≢false (sym (same_refl text) ∙ ap (λ (x : List ℕ). same_words text x) (sym f) ∙ e)
        absent (suc j) l f = a j (omega arith) f
    go false e (inr (j, p)) =
        let z : k + suc j ≡ suc k + j = omega arith in
        let l = p.inside in
        inr (suc j, record { found = rw (e, z) p.found; inside = omega arith; same = p.same })

-- ---- the words from k on are left to search
module _ (s text : List ℕ) (words k : ℕ) (l : k < words) where
  scan-here : search_from text k (texts_from s k (words - k)) ≡ cond (same_words text (text_of s k)) (Some k) (search_from text (k + 1) (texts_from s (k + 1) (words - (k + 1))))
  unfolding search_from texts_from
  scan-here =
      let e : words - k ≡ suc (words - (k + 1)) = omega arith in
      rw (e, add-one k) refl

  pub scan-found : same_words text (text_of s k) ≡ true → search_from text k (texts_from s k (words - k)) ≡ Some k
  scan-found e = scan-here ∙ rw e refl

  pub scan-next : same_words text (text_of s k) ≡ false → search_from text k (texts_from s k (words - k)) ≡ search_from text (k + 1) (texts_from s (k + 1) (words - (k + 1)))
  scan-next e = scan-here ∙ rw e refl

pub scan-start : (s text : List ℕ) (words : ℕ) → record_with s words text ≡ search_from text 4 (texts_from s 4 (words - 4))
unfolding record_with texts_of
scan-start s text words = refl

pub scan-end : (s text : List ℕ) (words k : ℕ) → words ≤ k → search_from text k (texts_from s k (words - k)) ≡ None
unfolding search_from texts_from
scan-end s text words k l = let e : words - k ≡ 0 = omega arith in rw e refl

-- ---- texts in a row
pub texts_are : (s : List ℕ) (k : ℕ) (us : List (List ℕ)) → ((j : ℕ) → j < length us → text_of s (k + j) ≡ get_or us j []) → texts_from s k (length us) ≡ us
unfolding texts_from
texts_are s k [] h = refl
texts_are s k (u ∷ us) h =
    let e : k + 0 ≡ k = omega arith in
    let first : text_of s k ≡ u = ap (text_of s) (sym e) ∙ h 0 (omega arith) in
    rw (first, texts_are s (suc k) us (λ j l. let f : suc k + j ≡ k + suc j = omega arith in ap (text_of s) f ∙ h (suc j) (omega arith))) refl

pub texts-at : (s : List ℕ) (k n j : ℕ) → j < n → get_or (texts_from s k n) j [] ≡ text_of s (k + j)
unfolding texts_from
texts-at s k zero j l = absurd (omega arith)
texts-at s k (suc n) zero l = let e : k + 0 ≡ k = omega arith in rw e refl
texts-at s k (suc n) (suc j) l = let e : k + suc j ≡ suc k + j = omega arith in rw e (texts-at s (suc k) n j (omega arith))
