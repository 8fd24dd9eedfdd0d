-- Laws of rows written of words: a good row is the row of its words, and a row of words reads back as these words. Assumes nothing.
use mathlib.Core.Path.{◌≡◌, refl, sym, ap, ap₂, ◌∙◌}
use mathlib.Core.Bool.{Bool, true, false}
use mathlib.Core.List.{List, [], ◌∷◌, ◌++◌, map}
use Prim.Native.Nat.{ℕ, zero, suc, ◌+◌, ◌*◌, ◌≤◌, ◌<◌}
use native.Mathlib.Numerals.{add-one}
use native.Mathlib.Omega.{arith}
use lib.ListN.{length, get_or, take, drop, length-drop, take-append-drop, get_or-map}
use lib.Seq.{get_or-take, get_or-drop, ext_get_or, length-take-le, drop-drop, get_or-append-add, drop-append-add}
use lib.IntN.{ℤ, pos}
use Rattle.integer.specs.Integer.{between, up_to}
use Rattle.integer.proofs.Arithmetic.{zarith, abs}
use Rattle.integer.proofs.Ranges.{between-low, between-yes, up_to_in}
use Rattle.backoff.specs.Limits.{order_limit, word_limit}
use Rattle.backoff.specs.Words.{are_words}
use Rattle.backoff.proofs.Words.{first_limit, words-rest}
use Rattle.rows.specs.Table.{field, probability_at, backoff_at, length_of, word_of, words_of, words, row}
use Rattle.rows.specs.Good.{GoodRow}
use Rattle.rows.proofs.Table.{words-length}
use Rattle.rows.proofs.Good.{place_range, place_of}

-- ---- a good row is the row of its words

-- a number in range, read and written again
pub written_back : (high : ℕ) (z : ℤ) → between (pos 0) (pos high) z ≡ true → pos (up_to (pos high) z) ≡ z
written_back high z e =
    let l = between-low (pos 0) (pos high) z e in
    ap pos (up_to_in (pos high) z e) ∙ omega (zarith, abs z)

module _ (t : List ℤ) (i : ℕ) (g : GoodRow t i) where
  -- its first number is its length
  pub length-place : pos (length_of t i) ≡ field t i 0
  unfolding length_of up_to
  length-place = go (between (pos 0) (pos order_limit) (field t i 0)) refl
    where
      go : (b : Bool) → between (pos 0) (pos order_limit) (field t i 0) ≡ b → pos (length_of t i) ≡ field t i 0
      go true e = written_back order_limit (field t i 0) e
      go false e = absurd (let l : 0 < length_of t i = g.some in let z : length_of t i ≡ 0 = rw e in omega arith)

  word-place : (q : ℕ) → q < order_limit → pos (get_or (words t i) q 0) ≡ field t i (suc q)
  unfolding words words_of up_to between
  word-place q l =
      ap pos (get_or-map (λ (z : ℤ). word_of z) (take (length_of t i) (drop (8 * i + 1) t)) q (pos 0))
      ∙ ap (λ (z : ℤ). pos (word_of z)) (place_of t i g q l ∙ ap (field t i) (add-one q))
      ∙ written_back word_limit (field t i (suc q)) (place_range t i g (suc q) (omega arith) (omega arith))

  module _ (h : 8 * i + 8 ≤ length t) where
    row_number : (j : ℕ) → j < 8 → get_or (row (words t i) (probability_at t i) (backoff_at t i)) j (pos 0) ≡ field t i j
    row_number zero l = ap pos (words-length t i h) ∙ length-place
    row_number (suc zero) l = word-place 0 (omega arith)
    row_number (suc (suc zero)) l = word-place 1 (omega arith)
    row_number (suc (suc (suc zero))) l = word-place 2 (omega arith)
    row_number (suc (suc (suc (suc zero)))) l = word-place 3 (omega arith)
    row_number (suc (suc (suc (suc (suc zero))))) l = word-place 4 (omega arith)
    row_number (suc (suc (suc (suc (suc (suc zero)))))) l = refl
    row_number (suc (suc (suc (suc (suc (suc (suc zero))))))) l = refl
    row_number (suc (suc (suc (suc (suc (suc (suc (suc j)))))))) l = absurd (omega arith)

    pub good-row-is-row : row (words t i) (probability_at t i) (backoff_at t i) ++ drop (8 * suc i) t ≡ drop (8 * i) t
    unfolding field
    good-row-is-row =
        ap₂ ◌++◌
        (ext_get_or (pos 0) (row (words t i) (probability_at t i) (backoff_at t i)) (take 8 (drop (8 * i) t)) (sym (length-take-le 8 (drop (8 * i) t) (omega (arith, length-drop (8 * i) t))))
        (λ j l. row_number j l ∙ sym (get_or-take 8 (drop (8 * i) t) j (pos 0) l ∙ get_or-drop (8 * i) t j (pos 0))))
        (let z : 8 * suc i ≡ 8 * i + 8 = omega arith in rw z (sym (drop-drop 8 (8 * i) t)))
        ∙ take-append-drop 8 (drop (8 * i) t)

-- ---- a row written of words reads back

pub word_of-pos : (w : ℕ) → w ≤ word_limit → word_of (pos w) ≡ w
word_of-pos w h = up_to_in (pos word_limit) (pos w) (between-yes (pos 0) (pos word_limit) (pos w) (omega zarith) (omega zarith))

pub words_back : (ws : List ℕ) → are_words ws ≡ true → words_of (map pos ws) ≡ ws
unfolding words_of
words_back [] e = refl
words_back (w ∷ ws) e = ap₂ ◌∷◌ (word_of-pos w (first_limit w ws e)) (words_back ws (words-rest w ws e))

pub row_words_lem : (ws : List ℕ) (p b : ℤ) (t : List ℤ) → length ws ≤ order_limit → words (row ws p b ++ t) 0 ≡ words_of (map pos ws)
unfolding words words_of length_of field up_to between
row_words_lem [] p b t h = refl
row_words_lem (u ∷ []) p b t h = refl
row_words_lem (u ∷ v ∷ []) p b t h = refl
row_words_lem (u ∷ v ∷ w ∷ []) p b t h = refl
row_words_lem (u ∷ v ∷ w ∷ x ∷ []) p b t h = refl
row_words_lem (u ∷ v ∷ w ∷ x ∷ y ∷ []) p b t h = refl
row_words_lem (u ∷ v ∷ w ∷ x ∷ y ∷ z ∷ ws) p b t h = absurd (omega arith)

-- past the first row
module _ (ws : List ℕ) (p b : ℤ) (t : List ℤ) (i : ℕ) where
  pub field_later : (j : ℕ) → field (row ws p b ++ t) (suc i) j ≡ field t i j
  unfolding field
  field_later j =
      let e : 8 * suc i + j ≡ 8 + (8 * i + j) = omega arith in
      rw e (get_or-append-add (row ws p b) t (8 * i + j) (pos 0))

  pub words_later : words (row ws p b ++ t) (suc i) ≡ words t i
  unfolding words length_of
  words_later =
      let e : 8 * suc i + 1 ≡ 8 + (8 * i + 1) = omega arith in
      rw (field_later 0, e) (ap (λ (l : List ℤ). words_of (take (up_to (pos order_limit) (field t i 0)) l)) (drop-append-add (row ws p b) t (8 * i + 1)))
