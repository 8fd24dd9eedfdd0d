-- Laws of a line of a section as it is read: its words are texts, and a line of one word is that word's text. Assumes nothing.
use Rattle.std.specs.declared.option.Option.{Option}
use Rattle.std.specs.declared.option.Option.TheVariants.{Some, None}
use mathlib.Core.Path.{◌≡◌, refl, sym, ap, ◌∙◌}
use mathlib.Core.Bool.{Bool, true, false, cond}
use mathlib.Core.List.{List, [], ◌∷◌, map}
use Prim.Native.Nat.{ℕ, ◌-◌}
use native.Mathlib.Omega.{arith}
use lib.IntN.{ℤ, pos}
use lib.ListN.{take, drop}
use borrow.Author.Tests.{eq-eqb, ne_eqb}
use Rattle.integer.proofs.Ranges.{and_left, and_right}
use Rattle.backoff.specs.Refusal.{line_form}
use Rattle.text_parts.specs.Parts.{parts}
use Rattle.text_parts.proofs.Parts.{one_part}
use Rattle.arpa_logs.specs.Logs.{read_points}
use Rattle.arpa_text.specs.Lines.{Listed, listed_with, listed_in, read_row, is_text, are_texts}
use Rattle.arpa_text.specs.Held.{listed_at}
use Rattle.arpa_text.specs.declared.RowLine.{RowLine}
use Rattle.arpa_words.specs.Words.{number_met, number_given}
use Rattle.arpa_sections.specs.Sections.{Reading, refused_by}
use Rattle.arpa_lines.specs.Reading.{word_step, longer_step, row_step}

-- ---- what is read are texts
with_texts : (m : ℕ) (p : Option ℤ) (texts : List (List ℕ)) (b : Option ℤ) (l : Listed) → listed_with m p texts b ≡ Some l → are_texts m l.texts ≡ true
with_texts m (Some p) texts (Some b) l e = go (are_texts m texts) refl e
  where
    go : (t : Bool) → are_texts m texts ≡ t → cond t (Some (record { p = p; b = b; texts = texts })) None ≡ Some l → are_texts m l.texts ≡ true
    go true f e = let z : record { p = p; b = b; texts = texts } ≡ l = cc in ap (λ (x : Listed). are_texts m x.texts) (sym z) ∙ f
    go false f e = let z : ◌≡◌ {A = ℕ} 0 1 = cc in absurd (omega arith)
with_texts m (Some p) texts None l e = let z : ◌≡◌ {A = ℕ} 0 1 = cc in absurd (omega arith)
with_texts m None texts b l e = let z : ◌≡◌ {A = ℕ} 0 1 = cc in absurd (omega arith)

pub read-texts : (m : ℕ) (line : List ℕ) (l : Listed) → read_row m line ≡ Some l → are_texts m l.texts ≡ true
unfolding read_row listed_in
read-texts m line l e = go (parts 9 line) e
  where
    go : (ps : List (List ℕ)) → listed_in m ps ≡ Some l → are_texts m l.texts ≡ true
    go [] e = let z : ◌≡◌ {A = ℕ} 0 1 = cc in absurd (omega arith)
    go (p ∷ []) e = let z : ◌≡◌ {A = ℕ} 0 1 = cc in absurd (omega arith)
    go (p ∷ words ∷ []) e = with_texts m (read_points p) (parts 32 words) (Some (pos 0)) l e
    go (p ∷ words ∷ b ∷ []) e = with_texts m (read_points p) (parts 32 words) (read_points b) l e
    go (p ∷ words ∷ b ∷ more ∷ rest) e = let z : ◌≡◌ {A = ℕ} 0 1 = cc in absurd (omega arith)

pub one-text : (texts : List (List ℕ)) → are_texts 1 texts ≡ true → (text : List ℕ) × (texts ≡ text ∷ []) × (is_text text ≡ true)
unfolding are_texts
one-text [] e = let z : ◌≡◌ {A = ℕ} 0 1 = cc in absurd (omega arith)
one-text (text ∷ []) e = (text, refl, and_left (is_text text) true e)
one-text (text ∷ more ∷ texts) e = let z = and_right (is_text text) false e in let y : ◌≡◌ {A = ℕ} 0 1 = cc in absurd (omega arith)

-- ---- the row that the code reads
module _ (m : ℕ) (line : List ℕ) (r : Option RowLine) (read : listed_at line r ≡ read_row m line) where
  pub row-not-in_form : (room size : ℕ) (a : Reading) → r ≡ None → row_step room size m a (read_row m line) ≡ refused_by line_form
  unfolding row_step
  row-not-in_form room size a e = ap (row_step room size m a) (sym read ∙ ap (listed_at line) e)

  module _ (x : RowLine) (is : r ≡ Some x) where
    abbrev words_part : List ℕ
    words_part = take (x.to - x.from) (drop x.from line)

    read-row : read_row m line ≡ Some (record { p = x.p; b = x.b; texts = parts 32 words_part })
    read-row = sym read ∙ ap (listed_at line) is

    pub part_texts : are_texts m (parts 32 (take (x.to - x.from) (drop x.from line))) ≡ true
    part_texts = read-texts m line (record { p = x.p; b = x.b; texts = parts 32 words_part }) read-row

    pub row-longer : (room size : ℕ) (a : Reading) → (m ≡ 1 → ⊥) → row_step room size m a (read_row m line) ≡ longer_step room a (record { p = x.p; b = x.b; texts = parts 32 (take (x.to - x.from) (drop x.from line)) }) (map (number_met a.texts) (parts 32 (take (x.to - x.from) (drop x.from line))))
    unfolding row_step
    row-longer room size a n = ap (row_step room size m a) read-row ∙ rw (ne_eqb m 1 n)

    module _ (one : m ≡ 1) where
      only-text : (parts 32 words_part ≡ words_part ∷ []) × (is_text words_part ≡ true)
      only-text =
          let f = one-text (parts 32 words_part) (rw one at part_texts) in
          let e = one_part 32 words_part f.0 f.1 in
          (f.1 ∙ ap (λ (l : List ℕ). l ∷ []) (sym e), ap is_text e ∙ f.2)

      pub part_text : is_text (take (x.to - x.from) (drop x.from line)) ≡ true
      part_text = only-text.1

      pub row_word : (room size : ℕ) (a : Reading) → row_step room size m a (read_row m line) ≡ word_step room size a (record { p = x.p; b = x.b; texts = take (x.to - x.from) (drop x.from line) ∷ [] }) (take (x.to - x.from) (drop x.from line)) (number_given a.texts (take (x.to - x.from) (drop x.from line)))
      unfolding row_step
      row_word room size a = ap (row_step room size m a) (read-row ∙ ap (λ (texts : List (List ℕ)). Some (record { p = x.p; b = x.b; texts = texts })) only-text.0) ∙ rw (eq-eqb m 1 one)
