-- What a reading holds of the lines of rows that it has read: their rows, their texts and the numbers of these; and one line more. Assumes nothing.
use Rattle.std.specs.declared.option.Option.TheVariants.{Some}
use mathlib.Core.Path.{◌≡◌, refl, sym, ap, ap₂, ◌∙◌, subst}
use mathlib.Core.Logic.{◌⊎◌, inl, inr, ⊎_elim}
use mathlib.Core.Bool.{Bool, true, false, cond, ◌||◌}
use mathlib.Core.List.Memᴰ
use mathlib.Core.List.{List, [], ◌∷◌, ◌++◌, map, append-nil, Memᴰ, map-append}
use Prim.Native.Nat.{ℕ, zero, suc, ◌*◌, ◌-◌, ◌<◌, ◌≤◌}
use native.Mathlib.Omega.{arith}
use lib.Dec.{eqb, ltb, leb}
use lib.IntN.{ℤ}
use lib.ListN.{length, get_or, drop, length-append, set, length-set, get_or-append, length-map}
use lib.Seq.{get_or-set_same, get_or-set_other, get_or-append_seam}
use borrow.Author.Tests.{leb-true, eq-eqb, ne_eqb}
use Rattle.integer.proofs.Each.{map_equal}
use Rattle.integer.proofs.Ranges.{and_left, and_right, lt_or_ge, equal_or_not}
use Rattle.integer.specs.Integer.{or_else}
use Rattle.backoff.specs.Words.{same_words}
use Rattle.word_index.specs.Texts.{search_from, given_by}
use Rattle.text_parts.specs.Parts.{before}
use Rattle.arpa_text.specs.Lines.{Listed, read_row, is_text, are_texts}
use Rattle.arpa_words.specs.Words.{number_met, number_given, with_text, some_missing, unknown_text, start_text, end_text, reserved_number}
use Rattle.arpa_words.specs.Held.{TextsSound}
use Rattle.arpa_words.proofs.Words.{text-not-empty, none-met, no-texts-sound}
use Rattle.arpa_sections.specs.Sections.{Reading, row_of, unread}
use Rattle.arpa_sections.specs.declared.Stage.{Stage}
use Rattle.arpa_sections.specs.declared.Stage.TheVariants.{Start, Counts, Section, Ended}
use Rattle.arpa_lines.specs.Reading.{add_row, row_fits, record_fits}
use Rattle.arpa_lines.proofs.Fields.{read-texts, one-text}
use Rattle.arpa.specs.Meaning.{row_lines, word_count, line_texts, line_row, word_texts, with_new, new_texts, number_by}
use Rattle.arpa.proofs.RowLines.{NoTab, row_line_lem, other_line, count_of-row, row_read, texts_of-row, numbers_of-row, row-same-numbers}
use Rattle.arpa.proofs.NewTexts.{number_in, Known, RecordsFit, TextRead, text-read, met-is-number, met-known, known-number}

-- ---- texts in form
texts_members : (m : ℕ) (us : List (List ℕ)) → are_texts m us ≡ true → (u : List ℕ) → Memᴰ u us → is_text u ≡ true
unfolding are_texts
texts_members zero [] e u k = absurd (Memᴰ.not-nil k)
texts_members zero (v ∷ us) e u k = absurd (let z : ◌≡◌ {A = ℕ} 0 1 = cc in omega arith)
texts_members (suc m) [] e u k = absurd (Memᴰ.not-nil k)
texts_members (suc m) (v ∷ us) e u k =
    ⊎_elim (λ f. ap is_text f ∙ and_left (is_text v) (are_texts m us) e) (λ n. texts_members m us (and_right (is_text v) (are_texts m us) e) u n) (Memᴰ.cases_cons k)

none_missing : (f : List ℕ → ℕ) (us : List (List ℕ)) → some_missing (map f us) ≡ false → (u : List ℕ) → Memᴰ u us → 0 < f u
unfolding some_missing
none_missing f [] e u k = absurd (Memᴰ.not-nil k)
none_missing f (v ∷ us) e u k = go (eqb (f v) 0) refl e (λ h n. none_missing f us h u n)
  where
    go : (t : Bool) → eqb (f v) 0 ≡ t → (t || some_missing (map f us)) ≡ false → (some_missing (map f us) ≡ false → Memᴰ u us → 0 < f u) → 0 < f u
    go true g h rest = absurd (let z : ◌≡◌ {A = ℕ} 0 1 = cc in omega arith)
    go false g h rest = ⊎_elim (λ i. rw i (positive (f v) g)) (rest h) (Memᴰ.cases_cons k)
      where
        positive : (n : ℕ) → eqb n 0 ≡ false → 0 < n
        positive zero q = absurd (let z : ◌≡◌ {A = ℕ} 0 1 = cc in omega arith)
        positive (suc n) q = omega arith

-- ---- one line more

rows_more : (ls : List (List ℕ)) (line : List ℕ) → row_lines (ls ++ (line ∷ [])) ≡ row_lines ls ++ row_lines (line ∷ [])
unfolding row_lines
rows_more [] line = refl
rows_more (i ∷ ls) line = go (ltb (before 9 i) (length i)) (rows_more ls line)
  where
    go : (t : Bool) → row_lines (ls ++ (line ∷ [])) ≡ row_lines ls ++ row_lines (line ∷ [])
        → cond t (i ∷ row_lines (ls ++ (line ∷ []))) (row_lines (ls ++ (line ∷ []))) ≡ cond t (i ∷ row_lines ls) (row_lines ls) ++ row_lines (line ∷ [])
    go true e = ap (λ (rows : List (List ℕ)). i ∷ rows) e
    go false e = e

pub no-row-more : (ls : List (List ℕ)) (line : List ℕ) → NoTab line → row_lines (ls ++ (line ∷ [])) ≡ row_lines ls
unfolding row_lines
no-row-more ls line e = rows_more ls line ∙ ap (λ (rows : List (List ℕ)). row_lines ls ++ rows) (other_line line [] e) ∙ append-nil (row_lines ls)

pub row_more : (ls : List (List ℕ)) (line : List ℕ) → before 9 line < length line → row_lines (ls ++ (line ∷ [])) ≡ row_lines ls ++ (line ∷ [])
unfolding row_lines
row_more ls line l = rows_more ls line ∙ ap (λ (rows : List (List ℕ)). row_lines ls ++ rows) (row_line_lem line [] l)

word_more : (rows : List (List ℕ)) (line : List ℕ) → word_count line ≡ 1 → word_texts (rows ++ (line ∷ [])) ≡ word_texts rows ++ (get_or (line_texts line) 0 [] ∷ [])
unfolding word_texts
word_more [] line e = rw (eq-eqb (word_count line) 1 e) refl
word_more (i ∷ rows) line e = go (eqb (word_count i) 1) (word_more rows line e)
  where
    go : (t : Bool) → word_texts (rows ++ (line ∷ [])) ≡ word_texts rows ++ (get_or (line_texts line) 0 [] ∷ [])
        → cond t (get_or (line_texts i) 0 [] ∷ word_texts (rows ++ (line ∷ []))) (word_texts (rows ++ (line ∷ []))) ≡ cond t (get_or (line_texts i) 0 [] ∷ word_texts rows) (word_texts rows) ++ (get_or (line_texts line) 0 [] ∷ [])
    go true f = ap (λ (us : List (List ℕ)). get_or (line_texts i) 0 [] ∷ us) f
    go false f = f

no-word-more : (rows : List (List ℕ)) (line : List ℕ) → (word_count line ≡ 1 → ⊥) → word_texts (rows ++ (line ∷ [])) ≡ word_texts rows
unfolding word_texts
no-word-more [] line n = rw (ne_eqb (word_count line) 1 n) refl
no-word-more (i ∷ rows) line n = go (eqb (word_count i) 1) (no-word-more rows line n)
  where
    go : (t : Bool) → word_texts (rows ++ (line ∷ [])) ≡ word_texts rows → cond t (get_or (line_texts i) 0 [] ∷ word_texts (rows ++ (line ∷ []))) (word_texts (rows ++ (line ∷ []))) ≡ cond t (get_or (line_texts i) 0 [] ∷ word_texts rows) (word_texts rows)
    go true f = ap (λ (us : List (List ℕ)). get_or (line_texts i) 0 [] ∷ us) f
    go false f = f

new-more : (met texts : List (List ℕ)) (u : List ℕ) → new_texts met (texts ++ (u ∷ [])) ≡ with_new (new_texts met texts) u
unfolding new_texts
new-more met [] u = refl
new-more met (v ∷ texts) u = new-more (with_new met v) texts u

-- a text's number by the lines
pub number_by_lem : (lines : List (List ℕ)) (u : List ℕ) → number_by lines u ≡ number_in (new_texts [] (word_texts lines)) u
unfolding number_by number_met number_in search_from reserved_number
number_by_lem lines u = go (same_words u unknown_text) (same_words u start_text) (same_words u end_text)
  where
    go : (a b c : Bool) → given_by (cond a (Some 1) (cond b (Some 2) (cond c (Some 3) (search_from u 4 (new_texts [] (word_texts lines)))))) 0 ≡ or_else (cond a 1 (cond b 2 (cond c 3 0))) (given_by (search_from u 4 (new_texts [] (word_texts lines))) 0)
    go true b c = refl
    go false true c = refl
    go false false true = refl
    go false false false = refl

-- the texts once word k has its text: this one, and those that were there
with_or_was : (texts : List (List ℕ)) (k : ℕ) (text u : List ℕ) → Known (with_text texts k text) u → (u ≡ text) ⊎ Known texts u
unfolding with_text
with_or_was texts k text u = go (leb k (length texts)) refl
  where
    go : (t : Bool) → leb k (length texts) ≡ t → Known (cond t (set texts (k - 1) text) (texts ++ (text ∷ []))) u → (u ≡ text) ⊎ Known texts u
    go true e (j, l, f) =
        let s = length-set texts (k - 1) text in
        ⊎_elim
        (λ (w : j ≡ k - 1). inl (sym f ∙ ap (λ (i : ℕ). get_or (set texts (k - 1) text) i []) w ∙ get_or-set_same texts (k - 1) text [] (omega arith)))
        (λ (w : j ≡ k - 1 → ⊥). inr (j, omega arith, sym (get_or-set_other texts (k - 1) j text [] w) ∙ f))
        (equal_or_not j (k - 1))
    go false e (j, l, f) =
        let s = length-append texts (text ∷ []) in
        ⊎_elim
        (λ (w : j < length texts). inr (j, w, sym (get_or-append texts (text ∷ []) [] j w) ∙ f))
        (λ (w : length texts ≤ j). let z : j ≡ length texts = omega arith in inl (sym f ∙ ap (λ (i : ℕ). get_or (texts ++ (text ∷ [])) i []) z ∙ get_or-append_seam texts text [] []))
        (lt_or_ge j (length texts))

-- the text of a row of the one-word section, the number that it gets, and the texts met then
abbrev pub only_text : Listed → List ℕ
only_text l = get_or l.texts 0 []

abbrev pub only_number : Reading → Listed → ℕ
only_number r l = number_given r.texts (only_text l)

abbrev pub texts_with : Reading → Listed → List (List ℕ)
texts_with r l = with_text r.texts (only_number r l) (only_text l)

record WordRow (size : ℕ) (r : Reading) (l : Listed) : Type 0 where
  pub only : l.texts ≡ only_text l ∷ []
  pub in_form_lem : is_text (only_text l) ≡ true
  pub read : TextRead size r.texts (only_text l) (only_number r l) (texts_with r l)

word_row_lem : (size : ℕ) (r : Reading) → TextsSound r.texts → (line : List ℕ) (l : Listed) → read_row 1 line ≡ Some l → WordRow size r l
word_row_lem size r sound line l is =
    let f = one-text l.texts (read-texts 1 line l is) in
    let same : only_text l ≡ f.0 = ap (λ (us : List (List ℕ)). get_or us 0 []) f.1 in
    let form = ap is_text same ∙ f.2 in
    record { only = f.1 ∙ ap (λ (u : List ℕ). u ∷ []) (sym same); in_form_lem = form; read = text-read size r.texts sound (only_text l) form }

-- ---- what a reading holds of the lines of rows

-- before the data section no count is announced
abbrev pub Fresh : Stage → List ℕ → Type 0
Fresh Start cs = cs ≡ []
Fresh Counts cs = Unit {0}
Fresh (Section m) cs = Unit {0}
Fresh Ended cs = Unit {0}

pub record Holds (room size : ℕ) (r : Reading) (lines : List (List ℕ)) : Type 0 where
  pub texts : TextsSound r.texts
  pub records : RecordsFit size r.texts
  pub row_room : 8 * length r.rows ≤ room
  pub fresh : Fresh r.stage r.announced
  pub said : (line : List ℕ) → Memᴰ line lines → (l : Listed) × (read_row (word_count line) line ≡ Some l)
  pub rows : r.rows ≡ map (line_row (number_in (drop 3 r.texts))) lines
  pub news : drop 3 r.texts ≡ new_texts [] (word_texts lines)
  pub in_form_lem : (line : List ℕ) → Memᴰ line lines → (u : List ℕ) → Memᴰ u (line_texts line) → is_text u ≡ true
  pub known : (line : List ℕ) → Memᴰ line lines → (u : List ℕ) → Memᴰ u (line_texts line) → Known r.texts u
  -- the texts met are those of the one-word lines
  pub listed : (u : List ℕ) → is_text u ≡ true → Known r.texts u → Memᴰ u (word_texts lines)
  pub met : (u : List ℕ) → Memᴰ u (word_texts lines) → (is_text u ≡ true) × Known r.texts u

pub holds-begun : (room size : ℕ) → Holds room size unread []
unfolding new_texts word_texts
holds-begun room size = record {
  texts = no-texts-sound;
  records = λ j l n. absurd (n (none-met j));
  row_room = omega arith;
  fresh = refl;
  said = λ line m. absurd (Memᴰ.not-nil m);
  rows = refl;
  news = refl;
  in_form_lem = λ line m. absurd (Memᴰ.not-nil m);
  known = λ line m. absurd (Memᴰ.not-nil m);
  listed = λ u f k. absurd (text-not-empty u f (sym k.2 ∙ none-met k.0));
  met = λ u m. absurd (Memᴰ.not-nil m);
}

module _ (room size : ℕ) (r : Reading) (lines : List (List ℕ)) (h : Holds room size r lines) where
  pub row_count_lem : length r.rows ≡ length lines
  row_count_lem = ap length h.rows ∙ length-map lines (line_row (number_in (drop 3 r.texts)))

  module _ (line : List ℕ) (m : ℕ) (l : Listed) (is : read_row m line ≡ Some l) where
    in_line : (u : List ℕ) → Memᴰ u (line_texts line) → Memᴰ u l.texts
    in_line u k = subst (λ (us : List (List ℕ)). Memᴰ u us) (texts_of-row m line l is) k

    row-in_form : (u : List ℕ) → Memᴰ u l.texts → is_text u ≡ true
    row-in_form = texts_members m l.texts (read-texts m line l is)

    said_more : (i : List ℕ) → Memᴰ i (lines ++ (line ∷ [])) → (k : Listed) × (read_row (word_count i) i ≡ Some k)
    said_more i n =
        ⊎_elim (h.said i) (λ d. (l, ap (λ (j : List ℕ). read_row (word_count j) j) (Memᴰ.eq_of_singleton d) ∙ row_read m line l is)) (Memᴰ.append_cases lines n)

    in_form-more : (i : List ℕ) → Memᴰ i (lines ++ (line ∷ [])) → (u : List ℕ) → Memᴰ u (line_texts i) → is_text u ≡ true
    in_form-more i n u k =
        ⊎_elim (λ d. h.in_form_lem i d u k)
        (λ d. row-in_form u (in_line u (subst (λ (j : List ℕ). Memᴰ u (line_texts j)) (Memᴰ.eq_of_singleton d) k)))
        (Memᴰ.append_cases lines n)

    -- the texts met stay met
    known_more : (texts : List (List ℕ)) → ((u : List ℕ) → is_text u ≡ true → Known r.texts u → Known texts u) → ((u : List ℕ) → Memᴰ u l.texts → Known texts u)
        → (i : List ℕ) → Memᴰ i (lines ++ (line ∷ [])) → (u : List ℕ) → Memᴰ u (line_texts i) → Known texts u
    known_more texts still here i n u k =
        ⊎_elim (λ d. still u (h.in_form_lem i d u k) (h.known i d u k))
        (λ d. here u (in_line u (subst (λ (j : List ℕ). Memᴰ u (line_texts j)) (Memᴰ.eq_of_singleton d) k)))
        (Memᴰ.append_cases lines n)

    -- and keep their numbers
    rows_with_lem : (number : List ℕ → ℕ) → ((u : List ℕ) → 0 < number_in (drop 3 r.texts) u → number u ≡ number_in (drop 3 r.texts) u) → (row : List ℤ) → line_row number line ≡ row
        → r.rows ++ (row ∷ []) ≡ map (line_row number) (lines ++ (line ∷ []))
    rows_with_lem number kept row e =
        ap₂ (λ (rows : List (List ℤ)) (new : List ℤ). rows ++ (new ∷ []))
        (h.rows
        ∙ map_equal (line_row (number_in (drop 3 r.texts))) (line_row number) lines
        (λ i n. row-same-numbers (number_in (drop 3 r.texts)) number i (λ u k. sym (kept u (known-number r.texts h.texts u (h.in_form_lem i n u k) (h.known i n u k))))))
        (sym e)
        ∙ sym (map-append (line_row number) lines (line ∷ []))

    row-room-more : (row : List ℤ) → row_fits room r ≡ true → 8 * length (r.rows ++ (row ∷ [])) ≤ room
    unfolding row_fits
    row-room-more row e =
        let f = length-append r.rows (row ∷ []) in
        let g = leb-true (8 * suc (length r.rows)) room e in
        omega arith

    -- ---- of the one-word section
    module _ (one : m ≡ 1) where
      word-is : WordRow size r l
      word-is = word_row_lem size r h.texts line l (rw one at is)

      words_more : word_texts (lines ++ (line ∷ [])) ≡ word_texts lines ++ (only_text l ∷ [])
      words_more = word_more lines line (count_of-row m line l is ∙ one) ∙ ap (λ (us : List (List ℕ)). word_texts lines ++ (get_or us 0 [] ∷ [])) (texts_of-row m line l is)

      word_news : drop 3 (texts_with r l) ≡ new_texts [] (word_texts (lines ++ (line ∷ [])))
      word_news = word-is.read.news ∙ ap (λ (ns : List (List ℕ)). with_new ns (only_text l)) h.news ∙ sym (new-more [] (word_texts lines) (only_text l)) ∙ ap (new_texts []) (sym words_more)

      word-line_row : line_row (number_in (drop 3 (texts_with r l))) line ≡ row_of (only_number r l ∷ []) l.p l.b
      word-line_row =
          numbers_of-row m line l is (number_in (drop 3 (texts_with r l)))
          ∙ ap (λ (us : List (List ℕ)). row_of (map (number_in (drop 3 (texts_with r l))) us) l.p l.b) word-is.only
          ∙ ap (λ (i : ℕ). row_of (i ∷ []) l.p l.b) (sym word-is.read.number)

      pub only-text : (u : List ℕ) → Memᴰ u l.texts → u ≡ only_text l
      only-text u i = Memᴰ.eq_of_singleton (subst (λ (us : List (List ℕ)). Memᴰ u us) word-is.only i)

      pub word_held : row_fits room r ≡ true → record_fits size (only_number r l) ≡ true → Holds room size (add_row r (row_of (only_number r l ∷ []) l.p l.b) (texts_with r l)) (lines ++ (line ∷ []))
      unfolding add_row record_fits
      word_held fits record_fits_lem =
          let read = word-is.read in
          record {
            texts = read.sound;
            records = read.fits h.records (leb-true (64 * suc (only_number r l)) size record_fits_lem);
            row_room = row-room-more (row_of (only_number r l ∷ []) l.p l.b) fits;
            fresh = h.fresh;
            said = said_more;
            rows = rows_with_lem (number_in (drop 3 (texts_with r l))) read.kept (row_of (only_number r l ∷ []) l.p l.b) word-line_row;
            news = word_news;
            in_form_lem = in_form-more;
            known = known_more (texts_with r l) read.still (λ u i. subst (Known (texts_with r l)) (sym (only-text u i)) read.known);
            listed = λ u f i.
                subst (λ (us : List (List ℕ)). Memᴰ u us) (sym words_more)
                (⊎_elim (λ z. Memᴰ.append_right (word_texts lines) (Memᴰ.head z)) (λ z. Memᴰ.append_left (only_text l ∷ []) (h.listed u f z)) (with_or_was r.texts (only_number r l) (only_text l) u i));
            met = λ u i.
                ⊎_elim
                (λ z. let y = h.met u z in (y.0, read.still u y.0 y.1))
                (λ z. let e = Memᴰ.eq_of_singleton z in (ap is_text e ∙ word-is.in_form_lem, subst (Known (texts_with r l)) (sym e) read.known))
                (Memᴰ.append_cases (word_texts lines) (subst (λ (us : List (List ℕ)). Memᴰ u us) words_more i));
          }

      -- the number that the lines give its text
      pub word_number : number_by (lines ++ (line ∷ [])) (only_text l) ≡ only_number r l
      word_number = number_by_lem (lines ++ (line ∷ [])) (only_text l) ∙ ap (λ (ns : List (List ℕ)). number_in ns (only_text l)) (sym word_news) ∙ sym word-is.read.number

      pub word_there : Memᴰ (only_text l) l.texts
      word_there = subst (λ (us : List (List ℕ)). Memᴰ (only_text l) us) (sym word-is.only) (Memᴰ.head refl)

    -- ---- of a longer section
    module _ (more : m ≡ 1 → ⊥) (all : some_missing (map (number_met r.texts) l.texts) ≡ false) where
      all-met : (u : List ℕ) → Memᴰ u l.texts → 0 < number_met r.texts u
      all-met = none_missing (number_met r.texts) l.texts all

      all_known : (u : List ℕ) → Memᴰ u l.texts → Known r.texts u
      all_known u n = met-known r.texts h.texts u (row-in_form u n) (all-met u n)

      pub all_listed : (u : List ℕ) → Memᴰ u l.texts → Memᴰ u (word_texts lines)
      all_listed u n = h.listed u (row-in_form u n) (all_known u n)

      no-words-more : word_texts (lines ++ (line ∷ [])) ≡ word_texts lines
      no-words-more = no-word-more lines line (λ z. more (sym (count_of-row m line l is) ∙ z))

      long-line_row : line_row (number_in (drop 3 r.texts)) line ≡ row_of (map (number_met r.texts) l.texts) l.p l.b
      long-line_row =
          numbers_of-row m line l is (number_in (drop 3 r.texts))
          ∙ ap (λ (ns : List ℕ). row_of ns l.p l.b)
          (map_equal (number_in (drop 3 r.texts)) (number_met r.texts) l.texts (λ u n. sym (met-is-number r.texts h.texts u (row-in_form u n) (all-met u n))))

      pub longer-held : row_fits room r ≡ true → Holds room size (add_row r (row_of (map (number_met r.texts) l.texts) l.p l.b) r.texts) (lines ++ (line ∷ []))
      unfolding add_row
      longer-held fits = record {
        texts = h.texts;
        records = h.records;
        row_room = row-room-more (row_of (map (number_met r.texts) l.texts) l.p l.b) fits;
        fresh = h.fresh;
        said = said_more;
        rows = rows_with_lem (number_in (drop 3 r.texts)) (λ u f. refl) (row_of (map (number_met r.texts) l.texts) l.p l.b) long-line_row;
        news = h.news ∙ ap (new_texts []) (sym no-words-more);
        in_form_lem = in_form-more;
        known = known_more r.texts (λ u f k. k) all_known;
        listed = λ u f i. subst (λ (us : List (List ℕ)). Memᴰ u us) (sym no-words-more) (h.listed u f i);
        met = λ u i. h.met u (subst (λ (us : List (List ℕ)). Memᴰ u us) no-words-more i);
      }
