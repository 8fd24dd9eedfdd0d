-- Laws of the parts of a text, of the search for a byte, and that digits have no other byte among them. Assumes nothing.
use mathlib.Core.Path.{◌≡◌, refl, sym, ap, ◌∙◌}
use mathlib.Core.Logic.{◌⊎◌, inl, inr, ⊎_elim}
use mathlib.Core.Bool.{Bool, true, false, cond, ◌&&◌}
use mathlib.Core.List.{List, [], ◌∷◌}
use Prim.Native.Nat.{ℕ, suc, ◌+◌, ◌≤◌, ◌<◌}
use native.Mathlib.Omega.{arith}
use native.Mathlib.Numerals.{add-one, one-add}
use lib.Dec.{eqb, ltb}
use lib.ListN.{length, take, drop}
use lib.Seq.{take_all}
use borrow.Author.Tests.{ne_eqb, ltb-true, ltb-false}
use Rattle.std.specs.Prelude.{Option, Some, None, MatchOption}
use Rattle.std.specs.List.{position, position_or_len}
use Rattle.std.proofs.lemmas.List.Recursion.{is_position_or_len}
use Rattle.integer.proofs.Ranges.{lt_or_ge}
use Rattle.std.specs.Cmp.Lexicographic.{pointwise}
use Rattle.backoff.specs.Words.{same_words}
use Rattle.decimal.specs.Digits.{all_digits, digits_up_to}
use Rattle.decimal.proofs.Digits.{digit_range, all_digits_lem}
use Rattle.text_parts.specs.Parts.{in_front, parts, before}

-- a text without the byte is one part
pub parts-one : (c : ℕ) (text : List ℕ) → before c text ≡ length text → parts c text ≡ text ∷ []
unfolding parts before
parts-one c [] h = refl
parts-one c (x ∷ text) h = go (eqb x c) refl (λ k. parts-one c text k)
  where
    go : (t : Bool) → eqb x c ≡ t → (before c text ≡ length text → parts c text ≡ text ∷ [])
        → cond t ([] ∷ parts c text) (in_front x (parts c text)) ≡ (x ∷ text) ∷ []
    go true e r = absurd (let k : 0 ≡ suc (length text) = rw e at h in omega arith)
    go false e r = let k : suc (before c text) ≡ suc (length text) = rw e at h in rw (r (omega arith)) refl

-- another text is the part before the first such byte, and the parts of what stands behind it
pub parts_more : (c : ℕ) (text : List ℕ) → before c text < length text
    → parts c text ≡ take (before c text) text ∷ parts c (drop (before c text + 1) text)
unfolding parts before
parts_more c [] h = absurd (omega arith)
parts_more c (x ∷ text) h = go (eqb x c) refl (λ k. parts_more c text k)
  where
    go : (t : Bool) → eqb x c ≡ t → (before c text < length text → parts c text ≡ take (before c text) text ∷ parts c (drop (before c text + 1) text))
        → cond t ([] ∷ parts c text) (in_front x (parts c text))
        ≡ take (cond t 0 (suc (before c text))) (x ∷ text) ∷ parts c (drop (cond t 0 (suc (before c text)) + 1) (x ∷ text))
    go true e r = refl
    go false e r =
        let k : suc (before c text) < suc (length text) = rw e at h in
        rw (r (omega arith), add-one (before c text), add-one (suc (before c text))) refl

pub before_le : (c : ℕ) (text : List ℕ) → before c text ≤ length text
unfolding before
before_le c [] = omega arith
before_le c (x ∷ text) = go (eqb x c) (before_le c text)
  where
    go : (t : Bool) → before c text ≤ length text → cond t 0 (suc (before c text)) ≤ suc (length text)
    go true r = omega arith
    go false r = omega arith

-- the byte does not stand in a text, or it does
pub lacks_or_has : (c : ℕ) (text : List ℕ) → (before c text ≡ length text) ⊎ (before c text < length text)
lacks_or_has c text =
    ⊎_elim (λ h. inr h) (λ h. let l = before_le c text in inl (omega arith)) (lt_or_ge (before c text) (length text))

-- a search for the byte
before_position : (c : ℕ) (text : List ℕ) → before c text ≡ position_or_len (λ (x : ℕ). eqb x c) text
unfolding before
before_position c = is_position_or_len (before c) (λ (x : ℕ). eqb x c) refl (λ x text. rw (one-add (before c text)) refl)

pub found : (c : ℕ) (text : List ℕ) (r : Option ℕ) → r ≡ position (λ (x : ℕ). eqb x c) text
    → MatchOption r (before c text ≡ length text) (λ (place : ℕ). (place ≡ before c text) × (place < length text))
found c text r e = rw (e, sym (before_position c text)) (go (ltb (before c text) (length text)) refl)
  where
    go : (t : Bool) → ltb (before c text) (length text) ≡ t
        → MatchOption (cond t (Some (before c text)) None) (before c text ≡ length text) (λ (place : ℕ). (place ≡ before c text) × (place < length text))
    go true h = (refl, ltb-true (before c text) (length text) h)
    go false h = let l = before_le c text in let m = ltb-false (before c text) (length text) h in omega arith

-- a byte of another kind in front
pub before-other : (c x : ℕ) (text : List ℕ) → (x ≡ c → ⊥) → before c text ≡ length text → before c (x ∷ text) ≡ length (x ∷ text)
unfolding before
before-other c x text n e = rw (ne_eqb x c n, e) refl

-- the parts of a text by the place at which a search for the byte stopped
module _ (c : ℕ) (text : List ℕ) (place : ℕ) (e : place ≡ before c text) where
  pub parts-end : place ≡ length text → parts c text ≡ take place text ∷ []
  parts-end h = parts-one c text (sym e ∙ h) ∙ ap (λ (l : List ℕ). l ∷ []) (sym (take_all place text (omega arith)))

  pub parts-front : place < length text → parts c text ≡ take place text ∷ parts c (drop (place + 1) text)
  parts-front h = rw e (parts_more c text (rw e at h))

pub parts-some : (c : ℕ) (text : List ℕ) → parts c text ≡ [] → ⊥
unfolding parts
parts-some c [] e = let z : ◌≡◌ {A = ℕ} 0 1 = cc in omega arith
parts-some c (x ∷ text) e = go (eqb x c) (parts c text) e
  where
    go : (b : Bool) (ps : List (List ℕ)) → cond b ([] ∷ ps) (in_front x ps) ≡ [] → ⊥
    go true ps e = let z : ◌≡◌ {A = ℕ} 0 1 = cc in omega arith
    go false [] e = let z : ◌≡◌ {A = ℕ} 0 1 = cc in omega arith
    go false (p ∷ ps) e = let z : ◌≡◌ {A = ℕ} 0 1 = cc in omega arith

-- a text of one part is that part
pub one_part : (c : ℕ) (text part : List ℕ) → parts c text ≡ part ∷ [] → text ≡ part
unfolding parts
one_part c [] part e = cc
one_part c (x ∷ text) part e = go (eqb x c) (parts c text) refl (λ q f. one_part c text q f) e
  where
    go : (b : Bool) (ps : List (List ℕ)) → parts c text ≡ ps → ((q : List ℕ) → parts c text ≡ q ∷ [] → text ≡ q) → cond b ([] ∷ ps) (in_front x ps) ≡ part ∷ [] → x ∷ text ≡ part
    go true ps f rest e = let z : ps ≡ [] = cc in absurd (parts-some c text (f ∙ z))
    go false [] f rest e = absurd (parts-some c text f)
    go false (p ∷ []) f rest e = let z : x ∷ p ≡ part = cc in ap (λ (l : List ℕ). x ∷ l) (rest p f) ∙ z
    go false (p ∷ q ∷ ps) f rest e = let z : ◌≡◌ {A = List (List ℕ)} (q ∷ ps) [] = cc in let y : ◌≡◌ {A = ℕ} 0 1 = cc in absurd (omega arith)

-- ---- whether two texts are the same

-- what `==` says of two texts
pub same_words-pointwise : (us vs : List ℕ) → pointwise eqb us vs ≡ same_words us vs
unfolding same_words
same_words-pointwise [] [] = refl
same_words-pointwise [] (v ∷ vs) = refl
same_words-pointwise (u ∷ us) [] = refl
same_words-pointwise (u ∷ us) (v ∷ vs) = ap (λ (b : Bool). eqb u v && b) (same_words-pointwise us vs)

-- ---- digits

-- no digit is such a byte
abbrev NoDigit : ℕ → Type 0
NoDigit c = (d : ℕ) → 48 ≤ d → d ≤ 57 → d ≡ c → ⊥

pub digits_lack : (c : ℕ) (text : List ℕ) → NoDigit c → all_digits text ≡ true → before c text ≡ length text
unfolding before
digits_lack c [] n e = refl
digits_lack c (x ∷ text) n e =
    let r = digit_range x text e in
    before-other c x text (n x r.0 r.1) (digits_lack c text n r.2)

pub digits-up-to_lack : (c most : ℕ) (text : List ℕ) → NoDigit c → before c text < length text → digits_up_to most text ≡ false
digits-up-to_lack c most text n h = go (digits_up_to most text) refl
  where
    go : (t : Bool) → digits_up_to most text ≡ t → t ≡ false
    go true e = let l = digits_lack c text n (all_digits_lem most text e) in absurd (omega arith)
    go false e = refl
