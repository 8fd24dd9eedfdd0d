-- A row written number by number. Assumes nothing.
use mathlib.Core.Logic.{⊎_elim}
use mathlib.Core.Path.{◌≡◌, refl, sym, ap, ◌∙◌}
use mathlib.Core.Bool.{true}
use mathlib.Core.List.{List, [], ◌∷◌}
use Prim.Native.Nat.{ℕ, ◌+◌, ◌*◌, ◌-◌}
use lib.ListN.{length, get_or, take, drop, get_or-eq_default, get_or-map}
use lib.IntN.{ℤ, pos}
use mir.Syntax.{w32}
use mir.Val.{SFits, to_z, of_z}
use mir.Facts.{to_z-of_z}
use Rattle.integer.proofs.Ranges.{lt_or_ge}
use Rattle.integer.specs.Integer.{between, up_to}
use Rattle.backoff.specs.Limits.{word_limit}
use Rattle.backoff.specs.Words.{are_words}
use Rattle.rows.specs.Table.{word_of, words_of}
use Rattle.rows.proofs.Table.{word_range}
use Rattle.rows.proofs.Rows.{written_back}
use Rattle.row_search.specs.Search.{find_in}
use Rattle.filled_list.specs.Filled.{filled_probability, filled_backoff, filled_row}
use Rattle.filled_list.specs.Next.{last_words}
use Rattle.row_ends.specs.Points.{words_from}
use Rattle.row_ends.specs.Steps.{IsEnd}
use Rattle.row_ends.proofs.Points.{end-words_are, end-places}

-- words, and 0 past the last
pub word-back : (zs : List ℤ) (j : ℕ) → are_words (words_of zs) ≡ true → get_or zs j (pos 0) ≡ pos (get_or (words_of zs) j 0)
unfolding words_of up_to between
word-back zs j e =
    sym (written_back word_limit (get_or zs j (pos 0)) fits)
    ∙ sym (ap pos (get_or-map (λ (z : ℤ). word_of z) zs j (pos 0)))
  where
    fits : between (pos 0) (pos word_limit) (get_or zs j (pos 0)) ≡ true
    fits = ⊎_elim (word_range zs j e) (λ l. rw (get_or-eq_default zs (pos 0) l) refl) (lt_or_ge j (length zs))

-- the word at place j of the last m words of row i, which has k words
module _ (t : List ℤ) (i k m j : ℕ) (e : IsEnd t i k m) where
  abbrev past : ℕ
  past = 8 * i + (k + 1)

  pub end-word : {z : ℤ} → SFits w32 z → z ≡ get_or (take (past - (past - m)) (drop (past - m) t)) j (pos 0) → to_z w32 (of_z w32 z) ≡ pos (get_or (last_words t i m) j 0)
  unfolding words_from
  end-word fits is =
      let q = end-places t e.checked i k m e.within e.size e.some e.long in
      to_z-of_z fits ∙ is ∙ word-back (take (past - (past - m)) (drop (past - m) t)) j q.3
      ∙ ap (λ (ws : List ℕ). pos (get_or ws j 0)) (end-words_are t e.checked i k m e.within e.size e.some e.long)

-- eight numbers are a filled row
pub filled-row-is : (t : List ℤ) (ws : List ℕ) (n v w x y z p b : ℤ) → n ≡ pos (length ws) → v ≡ pos (get_or ws 0 0) → w ≡ pos (get_or ws 1 0) → x ≡ pos (get_or ws 2 0) → y ≡ pos (get_or ws 3 0) → z ≡ pos (get_or ws 4 0)
    → p ≡ filled_probability t ws (find_in t ws) → b ≡ filled_backoff t (find_in t ws) → n ∷ v ∷ w ∷ x ∷ y ∷ z ∷ p ∷ b ∷ [] ≡ filled_row t ws
unfolding filled_row
filled-row-is t ws n v w x y z p b e₀ e₁ e₂ e₃ e₄ e₅ e₆ e₇ = rw (e₀, e₁, e₂, e₃, e₄, e₅, e₆, e₇)
