-- Laws of good rows: their words and keys, and the part ahead of a row. Assumes nothing.
use mathlib.Core.Path.{◌≡◌, refl, sym, ap, ◌∙◌}
use mathlib.Core.Bool.{true}
use mathlib.Core.List.{List, [], ◌∷◌}
use mathlib.Core.Logic.{⊎_elim}
use Prim.Native.Nat.{ℕ, zero, suc, ◌+◌, ◌*◌, ◌<◌, ◌≤◌, zero-le, suc-le-suc}
use native.Mathlib.Nat.{not-suc-le-zero}
use native.Mathlib.Omega.{arith}
use lib.Dec.{ltb, lit<, lit≤}
use lib.IntN.{ℤ, pos}
use lib.ListN.{length, get_or, take, drop, length-take, drop_of_length-le, get_or-eq_default}
use lib.Seq.{drop-cons, get_or-drop, get_or-take}
use borrow.Author.Tests.{ltb-true, le-leb, lt-leb}
use Rattle.integer.specs.Integer.{eq_z, between}
use Rattle.integer.proofs.Arithmetic.{zarith}
use Rattle.integer.proofs.Ranges.{lt_or_ge, between-low, between-high, between-yes, up_to_le, up_to-some}
use Rattle.backoff.specs.Limits.{order_limit, word_limit}
use Rattle.backoff.specs.Words.{are_words, radix, key}
use Rattle.rows.specs.Table.{rows_of, field, length_of, word_of, words_of, words, without_first, without_last, last_word, place_fits}
use Rattle.rows.specs.Order.{precedes}
use Rattle.rows.specs.Good.{GoodRow, Good}
use Rattle.rows.specs.Keys.{low_limit, row_key}
use Rattle.backoff.proofs.Words.{words_more, words-rest, first_some, first_limit, are_words_snoc}
use Rattle.rows.proofs.Order.{precedes-length}
use Rattle.rows.proofs.Keys.{precedes-key, key-places, key_limit}
use Rattle.rows.proofs.Table.{row_in, words-length, length_limit, words_cons, words_snoc, last_word_lem, part_rows_lem, part_field, part_length, part_words, same-places, place-fits}

-- k numbers from place a on that are words
words-from : (t : List ℤ) (a k : ℕ) → ((q : ℕ) → q < k → 0 < word_of (get_or t (a + q) (pos 0))) → are_words (words_of (take k (drop a t))) ≡ true
unfolding words_of are_words
words-from t a zero h = refl
words-from t a (suc k) h =
    let first : 0 < word_of (get_or t a (pos 0)) = let e : a + 0 ≡ a = omega arith in rw e at (h 0 (suc-le-suc zero-le)) in
    let rest : (q : ℕ) → q < k → 0 < word_of (get_or t (suc a + q) (pos 0)) = λ q p. let e : suc a + q ≡ a + suc q = omega arith in rw e (h (suc q) (omega arith)) in
    ⊎_elim
    (λ l.
    rw (drop-cons t a (pos 0) l)
    (words_more (word_of (get_or t a (pos 0))) (words_of (take k (drop (suc a) t))) first (up_to_le word_limit (get_or t a (pos 0))) (words-from t (suc a) k rest)))
    (λ l. rw (drop_of_length-le t l) refl)
    (lt_or_ge a (length t))

module _ (t : List ℤ) (i : ℕ) (g : GoodRow t i) where
  used : (j : ℕ) → 1 ≤ j → j ≤ length_of t i → between (pos 1) (pos word_limit) (field t i j) ≡ true
  unfolding place_fits
  used j s l = let m = length_limit t i in rw (le-leb j (length_of t i) l) at (place-fits t i 1 order_limit j g.places s (omega arith))

  unused : (j : ℕ) → length_of t i < j → j ≤ order_limit → field t i j ≡ pos 0
  unfolding place_fits
  unused j l m =
      let e : eq_z (field t i j) (pos 0) ≡ true = rw (lt-leb j (length_of t i) l) at (place-fits t i 1 order_limit j g.places (omega arith) (omega arith)) in
      omega zarith

  -- a place holds a word or 0
  pub place_range : (j : ℕ) → 1 ≤ j → j ≤ order_limit → between (pos 0) (pos word_limit) (field t i j) ≡ true
  place_range j s l =
      ⊎_elim
      (λ p. let e = unused j p l in between-yes (pos 0) (pos word_limit) (field t i j) (omega zarith) (omega zarith))
      (λ p.
      let e = used j s p in
      let low = between-low (pos 1) (pos word_limit) (field t i j) e in
      let high = between-high (pos 1) (pos word_limit) (field t i j) e in
      between-yes (pos 0) (pos word_limit) (field t i j) (omega zarith) (omega zarith))
      (lt_or_ge (length_of t i) j)

  -- the row's words and, past them, the zeros
  pub place_of : (q : ℕ) → q < order_limit → get_or (take (length_of t i) (drop (8 * i + 1) t)) q (pos 0) ≡ field t i (q + 1)
  unfolding field
  place_of q l =
      ⊎_elim
      (λ p. get_or-take (length_of t i) (drop (8 * i + 1) t) q (pos 0) p ∙ get_or-drop (8 * i + 1) t q (pos 0) ∙ ap (λ (a : ℕ). get_or t a (pos 0)) (omega arith))
      (λ (p : length_of t i ≤ q).
      get_or-eq_default (take (length_of t i) (drop (8 * i + 1) t)) (pos 0) (rw length-take (omega arith)) ∙ sym (unused (q + 1) (omega arith) (omega arith)))
      (lt_or_ge q (length_of t i))

  pub are_words_lem : are_words (words t i) ≡ true
  unfolding words field
  are_words_lem =
      words-from t (8 * i + 1) (length_of t i)
      (λ q l.
      let e : 8 * i + (q + 1) ≡ 8 * i + 1 + q = omega arith in
      rw (← e) (up_to-some (pos word_limit) (get_or t (8 * i + (q + 1)) (pos 0)) (used (q + 1) (omega arith) (omega arith))))

  -- the row's key is read off its five places
  pub row-key : key (word_of (field t i 1) ∷ word_of (field t i 2) ∷ word_of (field t i 3) ∷ word_of (field t i 4) ∷ word_of (field t i 5) ∷ []) ≡ row_key t i
  unfolding row_key words
  row-key =
      let zs : List ℤ = take (length_of t i) (drop (8 * i + 1) t) in
      let short : length zs ≤ order_limit = let m = length_limit t i in rw length-take (omega arith) in
      rw (← place_of 0 (lit< tt), ← place_of 1 (lit< tt), ← place_of 2 (lit< tt), ← place_of 3 (lit< tt), ← place_of 4 (lit< tt)) (key-places zs short)

  pub row-key_limit : row_key t i < radix * low_limit
  row-key_limit = rw (← row-key) (key_limit _ _ _ _ _ (up_to_le word_limit (field t i 1)) (up_to_le word_limit (field t i 2)) (up_to_le word_limit (field t i 3)) (up_to_le word_limit (field t i 4)) (up_to_le word_limit (field t i 5)))

  module _ (h : 8 * i + 8 ≤ length t) where
    pub are_words-without_first : are_words (without_first t i) ≡ true
    are_words-without_first =
        words-rest (word_of (field t i 1)) (without_first t i) (sym (ap are_words (words_cons t i h g.some)) ∙ are_words_lem)

    pub are_words-without_last : are_words (without_last t i) ≡ true
    are_words-without_last =
        let w = word_of (field t i (length_of t i)) in
        words-rest w (without_last t i) (sym (are_words_snoc (without_last t i) w) ∙ sym (ap are_words (words_snoc t i h g.some)) ∙ are_words_lem)

    pub are_words-last : are_words (last_word t i) ≡ true
    unfolding are_words
    are_words-last =
        let w = word_of (field t i (length_of t i)) in
        let e : are_words (w ∷ without_last t i) ≡ true = sym (are_words_snoc (without_last t i) w) ∙ sym (ap are_words (words_snoc t i h g.some)) ∙ are_words_lem in
        ap are_words (last_word_lem t i h) ∙ words_more w [] (first_some w (without_last t i) e) (first_limit w (without_last t i) e) refl

-- the order of good rows is that of their keys
pub precedes-row-key : (t : List ℤ) (i j : ℕ) → GoodRow t i → GoodRow t j → precedes (words t i) (words t j) ≡ ltb (row_key t i) (row_key t j)
unfolding row_key
precedes-row-key t i j g h = precedes-key (words t i) (words t j) (are_words_lem t i g) (are_words_lem t j h)

pub ascend-key : (t : List ℤ) (n i j : ℕ) → Good t n → i < j → j < n → row_key t i < row_key t j
ascend-key t n i j g l m =
    ltb-true (row_key t i) (row_key t j) (sym (precedes-row-key t i j (g.row i (omega arith)) (g.row j m)) ∙ g.ascend i j l m)

-- no row comes after a longer one
pub lengths-ascend : (t : List ℤ) → Good t (rows_of t) → (i j : ℕ) → i ≤ j → j < rows_of t → length_of t i ≤ length_of t j
lengths-ascend t g i j l m =
    ⊎_elim
    (λ p. omega (arith, precedes-length (words t i) (words t j) (g.ascend i j p m), words-length t i (row_in t i (omega arith)), words-length t j (row_in t j m)))
    (λ (p : j ≤ i). let e : i ≡ j = omega arith in let f : length_of t i ≡ length_of t j = ap (length_of t) e in omega arith)
    (lt_or_ge i j)

pub good_none : (t : List ℤ) → Good t 0
good_none t = record { row = λ i l. absurd (not-suc-le-zero l); ascend = λ i j l m. absurd (not-suc-le-zero m) }

pub good-fewer : (t : List ℤ) (m n : ℕ) → m ≤ n → Good t n → Good t m
good-fewer t m n l g = record { row = λ i p. g.row i (omega arith); ascend = λ i j p q. g.ascend i j p (omega arith) }

-- the part ahead of row n
module _ (t : List ℤ) (n : ℕ) where
  pub part_row : (i : ℕ) → i < n → GoodRow t i → GoodRow (take (8 * n) t) i
  part_row i l g = record { some = rw (part_length t n i l) g.some; places = same-places (take (8 * n) t) t i i (λ j m. part_field t n i l j (omega arith)) 1 order_limit (lit≤ tt) ∙ g.places }

  pub part_good : 8 * n ≤ length t → Good t n → Good (take (8 * n) t) (rows_of (take (8 * n) t))
  part_good h g =
      rw (part_rows_lem t n h)
      (record {
        row = λ i l. part_row i l (g.row i l);
        ascend = λ i j l m. rw (part_words t n i (omega arith), part_words t n j m) (g.ascend i j l m);
      })
