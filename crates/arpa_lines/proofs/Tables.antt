-- Laws of the rows that are written into the table. Assumes nothing.
use mathlib.Core.Path.{◌≡◌, refl, sym, ap, ap₂, ◌∙◌}
use mathlib.Core.List.{List, [], ◌∷◌, map}
use Prim.Native.Nat.{ℕ, suc, ◌+◌, ◌*◌, ◌<◌, ◌≤◌}
use native.Mathlib.Omega.{arith}
use lib.IntN.{ℤ, pos}
use lib.ListN.{length, get_or, drop, set, length-map, drop_of_length-le}
use lib.Seq.{drop-cons, sets}
use Rattle.integer.proofs.Stores.{sets_append}
use Rattle.arpa_lines.specs.Held.{word_field, long_row}

module _ (t₀ : List ℤ) (i : ℕ) (words : List ℕ) where
  -- what is still to be written of them, from word j on
  pub record Writing (t : List ℤ) (j : ℕ) : Type 0 where
    pub long : length t ≡ length t₀
    pub rest : sets t (8 * i + 1 + j) (map word_field (drop j words)) ≡ sets t₀ (8 * i + 1) (map word_field words)

  pub writing_none : Writing t₀ 0
  writing_none = record { long = refl; rest = ap (λ (a : ℕ). sets t₀ a (map word_field words)) (omega arith) }

  pub writing_next : (t : List ℤ) (j : ℕ) → j < length words → length (set t (8 * i + 1 + j) (word_field (get_or words j 0))) ≡ length t → Writing t j → Writing (set t (8 * i + 1 + j) (word_field (get_or words j 0))) (j + 1)
  writing_next t j l e w =
      let a : 8 * i + 1 + (j + 1) ≡ suc (8 * i + 1 + j) = omega arith in
      let b : j + 1 ≡ suc j = omega arith in
      record {
        long = e ∙ w.long;
        rest =
            ap₂ (λ (x y : ℕ). sets (set t (8 * i + 1 + j) (word_field (get_or words j 0))) x (map word_field (drop y words))) a b
            ∙ ap (λ (ws : List ℕ). sets t (8 * i + 1 + j) (map word_field ws)) (sym (drop-cons words j 0 l))
            ∙ w.rest;
      }

  pub writing_end : (t : List ℤ) (j : ℕ) → length words ≤ j → Writing t j → t ≡ sets t₀ (8 * i + 1) (map word_field words)
  writing_end t j l w = ap (λ (ws : List ℕ). sets t (8 * i + 1 + j) (map word_field ws)) (sym (drop_of_length-le words l)) ∙ w.rest

pub long-row-written : (t u : List ℤ) (i m : ℕ) (words : List ℕ) (p b : ℤ) → length words ≡ 5 → u ≡ sets (set t (8 * i) (pos m)) (8 * i + 1) (map word_field words) → set (set u (8 * i + 6) p) (8 * i + 7) b ≡ long_row t i m words p b
unfolding long_row
long-row-written t u i m words p b e f =
    let x : 8 * i + 1 ≡ suc (8 * i) = omega arith in
    let n : suc (8 * i) + length (map word_field words) ≡ 8 * i + 6 = rw length-map (omega arith) in
    let z : 8 * i + 7 ≡ suc (8 * i + 6) = omega arith in
    ap₂ (λ (v : List ℤ) (a : ℕ). set (set v (8 * i + 6) p) a b) (f ∙ ap (λ (a : ℕ). sets (set t (8 * i) (pos m)) a (map word_field words)) x) z
    ∙ ap (λ (a : ℕ). sets (sets (set t (8 * i) (pos m)) (suc (8 * i)) (map word_field words)) a (p ∷ b ∷ [])) (sym n)
    ∙ sym (sets_append (set t (8 * i) (pos m)) (suc (8 * i)) (map word_field words) (p ∷ b ∷ []))
