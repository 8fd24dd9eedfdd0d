-- Laws of a table's rows: their words one by one, parts of words, the words without the first and without the last, a number stored, the part ahead of a
-- row, and the word places that fit. Assumes nothing.
use mathlib.Core.Path.{◌≡◌, refl, ap, ap₂, ◌∙◌}
use mathlib.Core.Bool.{Bool, true, false, cond, ◌&&◌}
use mathlib.Core.List.{List, [], ◌∷◌, ◌++◌, map-append}
use mathlib.Core.Logic.{⊎_elim}
use Prim.Native.Nat.{ℕ, zero, suc, ◌+◌, ◌*◌, ◌-◌, ◌<◌, ◌≤◌}
use native.Mathlib.Nat.{not-suc-le-zero}
use native.Mathlib.Omega.{arith}
use lib.Dec.{leb}
use lib.IntN.{ℤ, pos}
use lib.ListN.{length, get_or, get_or-eq_default, set, take, drop, length-map, length-take, length-drop}
use lib.Seq.{get_or-set_same, get_or-set_other, drop-cons, take-suc, get_or-drop, get_or-take, length-take-le}
use borrow.Author.Tests.{le-leb, lt-leb}
use Rattle.integer.specs.Integer.{eq_z, between, up_to}
use Rattle.integer.proofs.Parts.{front_part}
use Rattle.integer.proofs.Ranges.{lt_or_ge, and_left, and_right, up_to_out, up_to_le}
use Rattle.backoff.specs.Limits.{order_limit, word_limit}
use Rattle.backoff.specs.Words.{are_words}
use Rattle.rows.specs.Table.{rows_of, field, length_of, order_of, word_of, words_of, words, without_first, without_last, last_word, place_fits, places_fit}
use Rattle.backoff.proofs.Words.{first_some, first_limit, words-rest, words_more}

pub length_limit : (t : List ℤ) (i : ℕ) → length_of t i ≤ order_limit
unfolding length_of
length_limit t i = up_to_le order_limit (field t i 0)

pub order_limit_lem : (t : List ℤ) → order_of t ≤ order_limit
unfolding order_of
order_limit_lem t = length_limit t (rows_of t - 1)

-- of words, each number is in range
pub word_range : (zs : List ℤ) (j : ℕ) → are_words (words_of zs) ≡ true → j < length zs → between (pos 0) (pos word_limit) (get_or zs j (pos 0)) ≡ true
unfolding words_of
word_range [] j a l = absurd (not-suc-le-zero l)
word_range (z ∷ zs) zero a l = go (between (pos 0) (pos word_limit) z) refl
  where
    go : (b : Bool) → between (pos 0) (pos word_limit) z ≡ b → b ≡ true
    go true e = refl
    go false e = absurd (omega (arith, up_to_out (pos word_limit) z e, first_some (word_of z) (words_of zs) a))
word_range (z ∷ zs) (suc j) a l = word_range zs j (words-rest (word_of z) (words_of zs) a) (omega arith)

-- the same at any place: past the last number it is 0
pub word_range_or : (zs : List ℤ) (j : ℕ) → are_words (words_of zs) ≡ true → between (pos 0) (pos word_limit) (get_or zs j (pos 0)) ≡ true
word_range_or zs j a =
    ⊎_elim (λ l. word_range zs j a l) (λ h. let e : get_or zs j (pos 0) ≡ pos 0 = get_or-eq_default zs (pos 0) h in rw e (unfold between in refl)) (lt_or_ge j (length zs))

-- a part of words is words
pub are_words-drop : (j : ℕ) (zs : List ℤ) → are_words (words_of zs) ≡ true → are_words (words_of (drop j zs)) ≡ true
unfolding words_of
are_words-drop zero zs e = e
are_words-drop (suc j) [] e = e
are_words-drop (suc j) (z ∷ zs) e = are_words-drop j zs (words-rest (word_of z) (words_of zs) e)

pub are_words-take : (k : ℕ) (zs : List ℤ) → are_words (words_of zs) ≡ true → are_words (words_of (take k zs)) ≡ true
unfolding words_of
are_words-take zero zs e = unfold are_words in refl
are_words-take (suc k) [] e = e
are_words-take (suc k) (z ∷ zs) e =
    words_more (word_of z) (words_of (take k zs)) (first_some (word_of z) (words_of zs) e) (first_limit (word_of z) (words_of zs) e) (are_words-take k zs (words-rest (word_of z) (words_of zs) e))

-- a row among the rows of a table lies in it
pub row_in : (t : List ℤ) (i : ℕ) → i < rows_of t → 8 * i + 8 ≤ length t
unfolding rows_of
row_in t i l = omega arith

-- a number is stored
module _ (t : List ℤ) (k j : ℕ) (v : ℤ) where
  pub field_stored : 8 * k + j < length t → field (set t (8 * k + j) v) k j ≡ v
  unfolding field
  field_stored h = get_or-set_same t (8 * k + j) v (pos 0) h

  pub field-kept : (l p : ℕ) → (8 * l + p ≡ 8 * k + j → ⊥) → field (set t (8 * k + j) v) l p ≡ field t l p
  unfolding field
  field-kept l p h = get_or-set_other t (8 * k + j) (8 * l + p) v (pos 0) h

module _ (t : List ℤ) (i : ℕ) (h : 8 * i + 8 ≤ length t) where
  pub words-length : length (words t i) ≡ length_of t i
  unfolding words words_of
  words-length =
      let m = length_limit t i in
      simp (length-map, length-take, length-drop) (omega arith)

  module _ (s : 0 < length_of t i) where
    pub words_cons : words t i ≡ word_of (field t i 1) ∷ without_first t i
    unfolding words without_first words_of field
    words_cons =
        let e : length_of t i ≡ suc (length_of t i - 1) = omega arith in
        let f : suc (8 * i + 1) ≡ 8 * i + 2 = omega arith in
        ap (λ (m : ℕ). words_of (take m (drop (8 * i + 1) t))) e
        ∙ ap (λ (l : List ℤ). words_of (take (suc (length_of t i - 1)) l)) (drop-cons t (8 * i + 1) (pos 0) (omega arith))
        ∙ ap (λ (a : ℕ). word_of (get_or t (8 * i + 1) (pos 0)) ∷ words_of (take (length_of t i - 1) (drop a t))) f

    pub words_snoc : words t i ≡ without_last t i ++ (word_of (field t i (length_of t i)) ∷ [])
    unfolding words without_last words_of field
    words_snoc =
        let m = length_limit t i in
        let e : length_of t i ≡ suc (length_of t i - 1) = omega arith in
        let f : 8 * i + 1 + (length_of t i - 1) ≡ 8 * i + length_of t i = omega arith in
        ap (λ (m : ℕ). words_of (take m (drop (8 * i + 1) t))) e
        ∙ ap words_of (take-suc (drop (8 * i + 1) t) (length_of t i - 1) (pos 0) (rw length-drop (omega arith)))
        ∙ map-append (λ (z : ℤ). word_of z) (take (length_of t i - 1) (drop (8 * i + 1) t)) (get_or (drop (8 * i + 1) t) (length_of t i - 1) (pos 0) ∷ [])
        ∙ ap (λ (z : ℤ). without_last t i ++ (word_of z ∷ [])) (get_or-drop (8 * i + 1) t (length_of t i - 1) (pos 0) ∙ ap (λ (a : ℕ). get_or t a (pos 0)) f)

  pub last_word_lem : last_word t i ≡ word_of (field t i (length_of t i)) ∷ []
  unfolding last_word words_of field
  last_word_lem =
      let m = length_limit t i in
      ap (λ (l : List ℤ). words_of (take 1 l)) (drop-cons t (8 * i + length_of t i) (pos 0) (omega arith))

  pub first_of-two : length_of t i ≡ 2 → without_last t i ≡ word_of (field t i 1) ∷ []
  unfolding without_last words_of field
  first_of-two e =
      ap (λ (m : ℕ). words_of (take (m - 1) (drop (8 * i + 1) t))) e
      ∙ ap (λ (l : List ℤ). words_of (take 1 l)) (drop-cons t (8 * i + 1) (pos 0) (omega arith))

-- the part of a table ahead of row n
module _ (t : List ℤ) (n : ℕ) where
  pub part_rows_lem : 8 * n ≤ length t → rows_of (take (8 * n) t) ≡ n
  unfolding rows_of
  part_rows_lem h = rw (length-take-le (8 * n) t h) (omega arith)

  module _ (i : ℕ) (l : i < n) where
    pub part_field : (j : ℕ) → j < 8 → field (take (8 * n) t) i j ≡ field t i j
    unfolding field
    part_field j m = get_or-take (8 * n) t (8 * i + j) (pos 0) (omega arith)

    pub part_length : length_of (take (8 * n) t) i ≡ length_of t i
    unfolding length_of
    part_length = ap (λ (z : ℤ). up_to (pos order_limit) z) (part_field 0 (omega arith))

    pub part_words : words (take (8 * n) t) i ≡ words t i
    unfolding words
    part_words =
        let m = length_limit t i in
        rw (part_length) (ap words_of (front_part t (8 * n) (8 * i + 1) (length_of t i) (omega arith)))

-- ---- the word places of a row

pub place_used : (t : List ℤ) (i j : ℕ) → j ≤ length_of t i → place_fits t i j ≡ between (pos 1) (pos word_limit) (field t i j)
unfolding place_fits
place_used t i j l = rw (le-leb j (length_of t i) l)

pub place_unused : (t : List ℤ) (i j : ℕ) → length_of t i < j → place_fits t i j ≡ eq_z (field t i j) (pos 0)
unfolding place_fits
place_unused t i j l = rw (lt-leb j (length_of t i) l)

-- rows with the same numbers in these places
pub same-places : (t u : List ℤ) (i k : ℕ) → ((j : ℕ) → j < 6 → field t i j ≡ field u k j) → (j n : ℕ) → j + n ≤ 6 → places_fit t i j n ≡ places_fit u k j n
unfolding places_fit place_fits length_of
same-places t u i k same j zero h = refl
same-places t u i k same j (suc n) h =
    ap₂ ◌&&◌
    (ap₂ (λ (m z : ℤ). cond (leb j (up_to (pos order_limit) m)) (between (pos 1) (pos word_limit) z) (eq_z z (pos 0))) (same 0 (omega arith)) (same j (omega arith)))
    (same-places t u i k same (suc j) n (omega arith))

-- one place of several that fit
pub place-fits : (t : List ℤ) (i j k q : ℕ) → places_fit t i j k ≡ true → j ≤ q → q < j + k → place_fits t i q ≡ true
unfolding places_fit
place-fits t i j zero q e l m = absurd (omega arith)
place-fits t i j (suc k) q e l m =
    ⊎_elim
    (λ p. place-fits t i (suc j) k q (and_right (place_fits t i j) (places_fit t i (suc j) k) e) p (omega arith))
    (λ p. let z : q ≡ j = omega arith in rw z (and_left (place_fits t i j) (places_fit t i (suc j) k) e))
    (lt_or_ge j q)
