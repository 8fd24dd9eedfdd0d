-- Laws of the lines that have a tab: those of rows, and no others. Assumes nothing.
use Rattle.std.specs.declared.option.Option.{Option}
use Rattle.std.specs.declared.option.Option.TheVariants.{Some, None}
use lib.IntN.{ℤ}
use mathlib.Core.Path.{◌≡◌, refl, sym, ap, ◌∙◌}
use mathlib.Core.Logic.{⊎_elim}
use mathlib.Core.Bool.{Bool, true, false, cond}
use mathlib.Core.List.{List, [], ◌∷◌, ◌++◌, map, Memᴰ}
use Prim.Native.Nat.{ℕ, suc, ◌+◌, ◌<◌}
use native.Mathlib.Omega.{arith}
use lib.Dec.{eqb}
use lib.IntN.{pos}
use lib.ListN.{length, get_or, take, drop}
use borrow.Author.Tests.{eqb-true, lt-ltb, le-ltb, ne_eqb}
use Rattle.integer.proofs.Each.{map_equal}
use Rattle.backoff.specs.Words.{same_words}
use Rattle.backoff.proofs.Words.{same_eq}
use Rattle.decimal.specs.Digits.{digits_up_to}
use Rattle.decimal.proofs.Digits.{all_digits_lem}
use Rattle.text_parts.specs.Parts.{parts, before}
use Rattle.text_parts.proofs.Parts.{parts-one, parts_more, before-other, lacks_or_has, digits_lack}
use Rattle.arpa_headings.specs.Headings.{data_line, section_line, end_line, count_head, is_count_head, without_space, count_in, read_count}
use Rattle.arpa_headings.proofs.Headings.{count_fields}
use Rattle.arpa_logs.specs.Logs.{read_points}
use Rattle.arpa_text.specs.Lines.{Listed, listed_with, listed_in, read_row, are_texts}
use Rattle.arpa_text.proofs.Lines.{no_row}
use Rattle.arpa_words.proofs.RowWords.{texts-count}
use Rattle.arpa_sections.specs.Sections.{row_of}
use Rattle.arpa_lines.proofs.Fields.{read-texts}
use Rattle.arpa.specs.Meaning.{row_lines, word_count, texts_in, line_texts, row_with, line_row}

-- no tab stands in the line
abbrev pub NoTab : List ℕ → Type 0
NoTab line = before 9 line ≡ length line

pub row_line_lem : (line : List ℕ) (lines : List (List ℕ)) → before 9 line < length line → row_lines (line ∷ lines) ≡ line ∷ row_lines lines
unfolding row_lines
row_line_lem line lines l = rw (lt-ltb (before 9 line) (length line) l) refl

pub other_line : (line : List ℕ) (lines : List (List ℕ)) → NoTab line → row_lines (line ∷ lines) ≡ row_lines lines
unfolding row_lines
other_line line lines e = rw (le-ltb (before 9 line) (length line) (omega arith)) refl

-- ---- lines without a tab
pub empty-no_tab : NoTab []
unfolding before
empty-no_tab = refl

pub data_no_tab : (line : List ℕ) → same_words line data_line ≡ true → NoTab line
unfolding before
data_no_tab line e = rw (same_eq line data_line e) refl

pub end-no_tab : (line : List ℕ) → same_words line end_line ≡ true → NoTab line
unfolding before
end-no_tab line e = rw (same_eq line end_line e) refl

pub section_no_tab : (m : ℕ) (line : List ℕ) → same_words line (section_line m) ≡ true → NoTab line
unfolding before
section_no_tab m line e = rw (same_eq line (section_line m) e, ne_eqb (48 + m) 9 (λ z. absurd (omega arith))) refl

-- ---- a line that announces a count
both-no_tab : (xs ys : List ℕ) (c : ℕ) → NoTab xs → (c ≡ 9 → ⊥) → NoTab ys → NoTab (xs ++ (c ∷ ys))
unfolding before
both-no_tab [] ys c e n f = before-other 9 c ys n f
both-no_tab (x ∷ xs) ys c e n f = go (eqb x 9) refl (λ g. both-no_tab xs ys c g n f)
  where
    go : (t : Bool) → eqb x 9 ≡ t → (NoTab xs → NoTab (xs ++ (c ∷ ys))) → cond (eqb x 9) 0 (suc (before 9 (xs ++ (c ∷ ys)))) ≡ suc (length (xs ++ (c ∷ ys)))
    go true g rest = absurd (let k : 0 ≡ suc (length xs) = rw g at e in omega arith)
    go false g rest =
        let k : suc (before 9 xs) ≡ suc (length xs) = rw g at e in
        rw g (ap suc (rest (omega arith)))

-- a text that has the byte is what stands before it, the byte, and what stands behind it
split_before : (c : ℕ) (text : List ℕ) → before c text < length text → text ≡ take (before c text) text ++ (c ∷ drop (before c text + 1) text)
unfolding before
split_before c [] l = absurd (omega arith)
split_before c (x ∷ text) l = go (eqb x c) refl (λ m. split_before c text m)
  where
    go : (t : Bool) → eqb x c ≡ t → (before c text < length text → text ≡ take (before c text) text ++ (c ∷ drop (before c text + 1) text))
        → x ∷ text ≡ take (cond t 0 (suc (before c text))) (x ∷ text) ++ (c ∷ drop (cond t 0 (suc (before c text)) + 1) (x ∷ text))
    go true e rest = ap (λ (y : ℕ). y ∷ text) (eqb-true x c e)
    go false e rest =
        let k : suc (before c text) < suc (length text) = rw e at l in
        let f : suc (before c text) + 1 ≡ suc (before c text + 1) = omega arith in
        rw f (ap (λ (r : List ℕ). x ∷ r) (rest (omega arith)))

head-no_tab : (m : ℕ) (head : List ℕ) → is_count_head m head ≡ true → NoTab head
unfolding is_count_head before
head-no_tab m head e = go (same_words head (count_head m)) refl
  where
    go : (t : Bool) → same_words head (count_head m) ≡ t → NoTab head
    go true f = rw (same_eq head (count_head m) f, ne_eqb (48 + m) 9 (λ z. absurd (omega arith))) refl
    go false f = rw (same_eq head (count_head m ++ (32 ∷ [])) (rw f at e), ne_eqb (48 + m) 9 (λ z. absurd (omega arith))) refl

digits-no_tab : (text : List ℕ) → digits_up_to 9 (without_space text) ≡ true → NoTab text
unfolding without_space
digits-no_tab [] e = empty-no_tab
digits-no_tab (c ∷ text) e = go (eqb c 32) refl
  where
    go : (t : Bool) → eqb c 32 ≡ t → NoTab (c ∷ text)
    go true f =
        let y = eqb-true c 32 f in
        before-other 9 c text (λ n. omega arith) (digits_lack 9 text (λ d l h g. omega arith) (all_digits_lem 9 text (rw f at e)))
    go false f = digits_lack 9 (c ∷ text) (λ d l h g. omega arith) (all_digits_lem 9 (c ∷ text) (rw f at e))

pub count-no_tab : (m : ℕ) (line : List ℕ) (count : ℕ) → read_count m line ≡ Some count → NoTab line
unfolding read_count count_in
count-no_tab m line count e = ⊎_elim one more (lacks_or_has 61 line)
  where
    one : before 61 line ≡ length line → NoTab line
    one h = absurd (let f : None ≡ Some count = rw (parts-one 61 line h) at e in let z : ◌≡◌ {A = ℕ} 0 1 = cc in omega arith)

    more : before 61 line < length line → NoTab line
    more h =
        let head = take (before 61 line) line in
        let rest = drop (before 61 line + 1) line in
        let f : cond (is_count_head m head) (count_in (without_space rest)) None ≡ Some count = sym (count_fields m head rest) ∙ rw (parts_more 61 line h) at e in
        rw (split_before 61 line h) (both-no_tab head rest 61 (heads (is_count_head m head) refl f) (λ z. absurd (omega arith)) (counts (is_count_head m head) f))
      where
        heads : (t : Bool) → is_count_head m (take (before 61 line) line) ≡ t → cond t (count_in (without_space (drop (before 61 line + 1) line))) None ≡ Some count → NoTab (take (before 61 line) line)
        heads true g f = head-no_tab m (take (before 61 line) line) g
        heads false g f = absurd (let z : ◌≡◌ {A = ℕ} 0 1 = cc in omega arith)

        digits : (t : Bool) → digits_up_to 9 (without_space (drop (before 61 line + 1) line)) ≡ t → count_in (without_space (drop (before 61 line + 1) line)) ≡ Some count → NoTab (drop (before 61 line + 1) line)
        digits true g f = digits-no_tab (drop (before 61 line + 1) line) g
        digits false g f = absurd (let k : None ≡ Some count = rw g at f in let z : ◌≡◌ {A = ℕ} 0 1 = cc in omega arith)

        counts : (t : Bool) → cond t (count_in (without_space (drop (before 61 line + 1) line))) None ≡ Some count → NoTab (drop (before 61 line + 1) line)
        counts true f = digits (digits_up_to 9 (without_space (drop (before 61 line + 1) line))) refl f
        counts false f = absurd (let z : ◌≡◌ {A = ℕ} 0 1 = cc in omega arith)

-- ---- a line of a row
with_words : (m : ℕ) (p : Option ℤ) (texts : List (List ℕ)) (b : Option ℤ) (l : Listed) → listed_with m p texts b ≡ Some l → l.texts ≡ texts
with_words m (Some p) texts (Some b) l e = go (are_texts m texts) e
  where
    go : (t : Bool) → cond t (Some (record { p = p; b = b; texts = texts })) None ≡ Some l → l.texts ≡ texts
    go true e = let z : record { p = p; b = b; texts = texts } ≡ l = cc in ap (λ (x : Listed). x.texts) (sym z)
    go false e = let z : ◌≡◌ {A = ℕ} 0 1 = cc in absurd (omega arith)
with_words m (Some p) texts None l e = let z : ◌≡◌ {A = ℕ} 0 1 = cc in absurd (omega arith)
with_words m None texts b l e = let z : ◌≡◌ {A = ℕ} 0 1 = cc in absurd (omega arith)

module _ (m : ℕ) (line : List ℕ) (l : Listed) (e : read_row m line ≡ Some l) where
  pub row-has_tab : before 9 line < length line
  unfolding read_row
  row-has_tab =
      ⊎_elim (λ h. absurd (let f : None ≡ Some l = sym (no_row m line h) ∙ e in let z : ◌≡◌ {A = ℕ} 0 1 = cc in omega arith)) (λ h. h) (lacks_or_has 9 line)

  words_are : l.texts ≡ parts 32 (get_or (parts 9 line) 1 [])
  unfolding read_row listed_in
  words_are = go (parts 9 line) e
    where
      go : (ps : List (List ℕ)) → listed_in m ps ≡ Some l → l.texts ≡ parts 32 (get_or ps 1 [])
      go [] f = let z : ◌≡◌ {A = ℕ} 0 1 = cc in absurd (omega arith)
      go (p ∷ []) f = let z : ◌≡◌ {A = ℕ} 0 1 = cc in absurd (omega arith)
      go (p ∷ words ∷ []) f = with_words m (read_points p) (parts 32 words) (Some (pos 0)) l f
      go (p ∷ words ∷ b ∷ []) f = with_words m (read_points p) (parts 32 words) (read_points b) l f
      go (p ∷ words ∷ b ∷ more ∷ rest) f = let z : ◌≡◌ {A = ℕ} 0 1 = cc in absurd (omega arith)

  pub count_of-row : word_count line ≡ m
  unfolding word_count
  count_of-row = ap length (sym words_are) ∙ texts-count m l.texts (read-texts m line l e)

  pub row_read : read_row (word_count line) line ≡ Some l
  row_read = ap (λ (k : ℕ). read_row k line) count_of-row ∙ e

  pub texts_of-row : line_texts line ≡ l.texts
  unfolding line_texts
  texts_of-row = ap texts_in row_read

  pub numbers_of-row : (number : List ℕ → ℕ) → line_row number line ≡ row_of (map number l.texts) l.p l.b
  unfolding line_row
  numbers_of-row number = ap (row_with number) row_read

-- ---- the texts of a line
pub row-same-numbers : (f g : List ℕ → ℕ) (line : List ℕ) → ((u : List ℕ) → Memᴰ u (line_texts line) → f u ≡ g u) → line_row f line ≡ line_row g line
unfolding line_row line_texts
row-same-numbers f g line h = go (read_row (word_count line) line) h
  where
    go : (o : Option Listed) → ((u : List ℕ) → Memᴰ u (texts_in o) → f u ≡ g u) → row_with f o ≡ row_with g o
    go None k = refl
    go (Some l) k = ap (λ (ns : List ℕ). row_of ns l.p l.b) (map_equal f g l.texts k)
