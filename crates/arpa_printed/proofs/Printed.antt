-- An ARPA text printed from an accepted list reads back as that list and its words' texts. Assumes nothing.
use Rattle.std.specs.declared.option.Option.TheVariants.{Some}
use mathlib.Core.Path.{◌≡◌, refl, sym, ap, ap₂, subst, ◌∙◌}
use mathlib.Core.Logic.{⊎_elim}
use mathlib.Core.Bool.{Bool, true, false, cond}
use mathlib.Core.List.{List, [], ◌∷◌, ◌++◌, map, append-nil, append_assoc, map-append}
use Prim.Native.Nat.{ℕ, zero, suc, ◌+◌, ◌*◌, ◌-◌, ◌<◌, ◌≤◌}
use native.Mathlib.Omega.{arith}
use lib.Dec.{ltb, eqb}
use lib.IntN.{ℤ}
use lib.ListN.{length, get_or, take, length-append, length-map, get_or-eq_default}
use lib.Seq.{take_all}
use borrow.Author.Tests.{eq-eqb, ne_eqb, le-leb, lt-ltb, le-ltb}
use Rattle.integer.proofs.Arithmetic.{abs}
use Rattle.integer.proofs.Ranges.{lt_or_ge}
use Rattle.backoff.specs.Limits.{order_limit, row_limit}
use Rattle.backoff.specs.Words.{same_words}
use Rattle.backoff.specs.NineNumbers.{padded}
use Rattle.backoff.proofs.Sizes.{probability-size, backoff-size}
use Rattle.backoff.proofs.Words.{same_refl}
use Rattle.rows.specs.Table.{rows_of, length_of, order_of, words, probability_at, backoff_at}
use Rattle.rows.proofs.Table.{row_in, order_limit_lem, words-length}
use Rattle.rows.proofs.Good.{lengths-ascend}
use Rattle.row_fields.proofs.Fields.{backoff_in}
use Rattle.list.specs.Check.{verdict}
use Rattle.list.proofs.Check.{accepted-row, accepted-good, accepted-size}
use Rattle.row_codes.specs.Rows.{row_at}
use Rattle.row_order.specs.RowOrder.{rows_at, list_order}
use Rattle.row_order.proofs.Rows.{joined-all}
use Rattle.row_order.proofs.Sorted.{accepted-list_order}
use Rattle.word_index.specs.Texts.{search_from}
use Rattle.text_parts.specs.Parts.{parts, before}
use Rattle.arpa_headings.specs.Headings.{data_line, section_line, end_line, read_count}
use Rattle.arpa_text.specs.Lines.{Listed, read_row, are_texts}
use Rattle.arpa_words.specs.Words.{unknown_text, start_text, end_text, no_texts, reserved_number, number_given, with_text, store_with}
use Rattle.arpa_sections.specs.Sections.{Reading, unread, goes, announce, enter, first_section, count_step, data_step, closes, close_section, row_of}
use Rattle.arpa_sections.specs.declared.Stage.{Stage}
use Rattle.arpa_sections.specs.declared.Stage.TheVariants.{Counts, Section, Ended}
use Rattle.arpa_lines.specs.Reading.{add_row, row_fits, record_fits, word_step, longer_step, row_step, section_step, stage_step, line_step, done, onward, last_piece, read_lines}
use Rattle.arpa_reading.specs.Outcome.{ordered, lines_outcome, judged}
use Rattle.arpa_reading.proofs.RowsHeld.{rows-count}
use Rattle.arpa_reading.specs.Rows.{Read}
use Rattle.arpa.specs.Outcome.{read_arpa}
use Rattle.arpa.proofs.Meaning.{first_three}
use Rattle.arpa_printed.specs.Printed.{print_count, rows_with, word_text, row_line, count_lines, section_lines, printed, Printable, ReadsBack}
use Rattle.arpa_printed.proofs.PrintedLines.{Lacks, AllLack, parts_of_lines, count-read, count-some, count_lacks, row_lead, row_lacks, row_read, row-closes-none}
use Rattle.arpa_printed.proofs.PrintedRows.{count_up, count-rows, count-length, section_rows, section_rows_lem, one-word-rows, AllOf, all_of_length, row_of-words, AllKnown, words-known}
use Rattle.arpa_printed.proofs.PrintedWords.{numbers_of-words, number_of-next, known-none_missing, words-texts, with_next_text}

-- ---- line by line

abbrev standing : Stage → List ℕ → ℕ → List (List ℤ) → List (List ℕ) → Reading
standing stage counts lines rows texts = record { stage = stage; announced = counts; lines = lines; rows = rows; texts = texts }

-- the lines lead from one reading to another
abbrev Reads : ℕ → ℕ → Reading → List (List ℕ) → Reading → Type 0
Reads room size r [] s = r ≡ s
Reads room size r (line ∷ lines) s = (q : Reading) × (line_step room size r line ≡ goes q) × Reads room size q lines s

module _ (room size : ℕ) where
  reads_then : (lines more : List (List ℕ)) (r q s : Reading) → Reads room size r lines q → Reads room size q more s → Reads room size r (lines ++ more) s
  reads_then [] more r q s a b = subst (λ (x : Reading). Reads room size x more s) (sym a) b
  reads_then (line ∷ lines) more r q s a b = (a.0, a.1, reads_then lines more a.0 q s a.2 b)

  lines-read : (lines : List (List ℕ)) (r s : Reading) (k : ℕ) → Reads room size r lines s → s.stage ≡ Ended → read_lines room size r k (lines ++ ([] ∷ [])) ≡ done s
  unfolding read_lines
  lines-read [] r s k a e = ap (λ (x : Reading). last_piece x.stage x k []) a ∙ ap (λ (x : Stage). last_piece x s k []) e
  lines-read (line ∷ []) r s k a e =
      ap (onward (λ (q : Reading). read_lines room size q (suc k) ([] ∷ [])) k) a.1 ∙ lines-read [] a.0 s (suc k) a.2 e
  lines-read (line ∷ next ∷ lines) r s k a e =
      ap (onward (λ (q : Reading). read_lines room size q (suc k) (next ∷ (lines ++ ([] ∷ [])))) k) a.1 ∙ lines-read (next ∷ lines) a.0 s (suc k) a.2 e

  some_line : (r : Reading) (line : List ℕ) → 0 < length line → line_step room size r line ≡ stage_step room size r.stage r line
  unfolding line_step
  some_line r [] l = absurd (omega arith)
  some_line r (c ∷ line) l = refl

-- ---- the data section

abbrev section_counts : List ℤ → ℕ → ℕ → List ℕ
section_counts t m zero = []
section_counts t m (suc k) = length (rows_with m t 0 (rows_of t)) ∷ section_counts t (suc m) k

counts-length : (t : List ℤ) (m k : ℕ) → length (section_counts t m k) ≡ k
counts-length t m zero = refl
counts-length t m (suc k) = ap suc (counts-length t (suc m) k)

count_at : (t : List ℤ) (m k j : ℕ) → j < k → get_or (section_counts t m k) j 0 ≡ length (rows_with (m + j) t 0 (rows_of t))
count_at t m zero j l = absurd (omega arith)
count_at t m (suc k) zero l = ap (λ (x : ℕ). length (rows_with x t 0 (rows_of t))) (omega arith)
count_at t m (suc k) (suc j) l = count_at t (suc m) k j (omega arith) ∙ ap (λ (x : ℕ). length (rows_with x t 0 (rows_of t))) (omega arith)

count_limit : (m : ℕ) (t : List ℤ) (i k : ℕ) → length (rows_with m t i k) ≤ k
unfolding rows_with
count_limit m t i zero = omega arith
count_limit m t i (suc k) = go (eqb (length_of t i) m) (count_limit m t (suc i) k)
  where
    go : (b : Bool) → length (rows_with m t (suc i) k) ≤ k → length (cond b (i ∷ rows_with m t (suc i) k) (rows_with m t (suc i) k)) ≤ suc k
    go true l = omega arith
    go false l = omega arith

module _ (room size : ℕ) where
  count-step : (m count : ℕ) (before : List ℕ) → suc (length before) ≡ m → m ≤ 5 → count < 1000000000
      → line_step room size (standing Counts before 0 [] no_texts) (print_count m count) ≡ goes (standing Counts (before ++ (count ∷ [])) 0 [] no_texts)
  unfolding data_step announce
  count-step m count before e l h =
      some_line room size (standing Counts before 0 [] no_texts) (print_count m count) (count-some m count l)
      ∙ rw (lt-ltb (length before) order_limit (omega arith), e, count-read m count l h) refl

  counts-read : (texts : List (List ℕ)) (t : List ℤ) → rows_of t ≤ row_limit → (k m : ℕ) (before : List ℕ) → suc (length before) ≡ m → m + k ≤ 6
      → Reads room size (standing Counts before 0 [] no_texts) (count_lines texts t m k) (standing Counts (before ++ section_counts t m k) 0 [] no_texts)
  unfolding count_lines
  counts-read texts t few zero m before e l = ap (λ (c : List ℕ). standing Counts c 0 [] no_texts) (sym (append-nil before))
  counts-read texts t few (suc k) m before e l =
      let count = length (rows_with m t 0 (rows_of t)) in
      let h = count_limit m t 0 (rows_of t) in (
        standing Counts (before ++ (count ∷ [])) 0 [] no_texts,
        count-step m count before e (omega arith) (omega arith),
        subst (λ (c : List ℕ). Reads room size (standing Counts (before ++ (count ∷ [])) 0 [] no_texts) (count_lines texts t (suc m) k) (standing Counts c 0 [] no_texts))
            (append_assoc before (count ∷ []) (section_counts t (suc m) k))
            (counts-read texts t few k (suc m) (before ++ (count ∷ [])) (simp length-append (omega arith)) (omega arith)),
      )

  first_heading : (counts : List ℕ) → 1 ≤ length counts
      → line_step room size (standing Counts counts 0 [] no_texts) (section_line 1) ≡ goes (standing (Section 1) counts 0 [] no_texts)
  unfolding line_step data_step first_section enter read_count parts same_words
  first_heading counts l = go (ltb (length counts) order_limit)
    where
      go : (b : Bool)
          → cond b (count_step (standing Counts counts 0 [] no_texts) (section_line 1) (read_count (suc (length counts)) (section_line 1))) (first_section (standing Counts counts 0 [] no_texts) (section_line 1))
          ≡ goes (standing (Section 1) counts 0 [] no_texts)
      go true = rw (le-leb 1 (length counts) l) refl
      go false = rw (le-leb 1 (length counts) l) refl

  -- ---- the sections' ends

  close_next : (m : ℕ) (counts : List ℕ) (lines : ℕ) (rows : List (List ℤ)) (texts : List (List ℕ)) → m < length counts → lines ≡ get_or counts (m - 1) 0
      → line_step room size (standing (Section m) counts lines rows texts) (section_line (suc m)) ≡ goes (standing (Section (suc m)) counts 0 rows texts)
  unfolding line_step section_step closes close_section enter
  close_next m counts lines rows texts l e =
      rw (lt-ltb m (length counts) l, same_refl (section_line (suc m)), eq-eqb lines (get_or counts (m - 1) 0) e) refl

  close_last : (m : ℕ) (counts : List ℕ) (lines : ℕ) (rows : List (List ℤ)) (texts : List (List ℕ)) → length counts ≤ m → lines ≡ get_or counts (m - 1) 0
      → line_step room size (standing (Section m) counts lines rows texts) end_line ≡ goes (standing Ended counts 0 rows texts)
  unfolding line_step section_step closes close_section enter same_words
  close_last m counts lines rows texts l e =
      rw (le-ltb m (length counts) l, eq-eqb lines (get_or counts (m - 1) 0) e) refl

-- ---- lines without an LF

all_lack_append : (lines more : List (List ℕ)) → AllLack 10 lines → AllLack 10 more → AllLack 10 (lines ++ more)
all_lack_append [] more a b = b
all_lack_append (line ∷ lines) more a b = (a.0, all_lack_append lines more a.1 b)

section_lacks : (m : ℕ) → Lacks 10 (section_line m)
unfolding before
section_lacks m = rw (ne_eqb (48 + m) 10 (λ e. omega arith)) refl

data_lacks : Lacks 10 data_line
unfolding before
data_lacks = refl

end_lacks : Lacks 10 end_line
unfolding before
end_lacks = refl

-- ---- a printable list

three_texts : (texts : List (List ℕ)) → get_or texts 2 [] ≡ end_text → 3 ≤ length texts
three_texts texts e =
    ⊎_elim (λ l. l) (λ l. let f = ap length (sym (get_or-eq_default texts [] l) ∙ e) in absurd (omega arith)) (lt_or_ge 2 (length texts))

module _ (texts : List (List ℕ)) (t : List ℤ) (room size : ℕ) (is : Printable texts t room size) where
  abbrev listed : ℕ → Listed
  listed i = record { p = probability_at t i; b = backoff_at t i; texts = map (word_text texts) (words t i) }

  known : (i : ℕ) → i < rows_of t → AllKnown (length texts) (words t i)
  known i l = words-known t is.accepted (length texts) is.ones is.longer i l

  row-texts : (i : ℕ) (l : i < rows_of t) → are_texts (length (map (word_text texts) (words t i))) (map (word_text texts) (words t i)) ≡ true
  row-texts i l = words-texts texts is.in_form_lem (words t i) (known i l)

  whole : length t ≡ 8 * rows_of t
  whole = (accepted-size t is.accepted).2

  texts-length : (i : ℕ) → i < rows_of t → length (map (word_text texts) (words t i)) ≡ length_of t i
  texts-length i l = length-map (words t i) (word_text texts) ∙ words-length t i (row_in t i l)

  listed-read : (i : ℕ) → i < rows_of t → read_row (length_of t i) (row_line texts t i) ≡ Some (listed i)
  listed-read i l =
      let row = (accepted-row t is.accepted i l).fields in
      let e = texts-length i l in
      let some_word = row.good.some in
      let b = backoff-size (backoff_at t i) (backoff_in t (order_of t) i row.backoff) in
      subst (λ (m : ℕ). read_row m (row_line texts t i) ≡ Some (listed i)) e
      (row_read (probability_at t i) (backoff_at t i) (map (word_text texts) (words t i)) (row-texts i l) (probability-size (probability_at t i) row.probability) (omega (arith, abs (backoff_at t i))) (omega arith))

  -- a row's line is read as a row
  row_line_lem : (m : ℕ) (r : Reading) (i : ℕ) → r.stage ≡ Section m → i < rows_of t → length_of t i ≡ m → line_step room size r (row_line texts t i) ≡ row_step room size m r (Some (listed i))
  unfolding section_step
  row_line_lem m r i st l e =
      let d = row_lead (probability_at t i) (backoff_at t i) (map (word_text texts) (words t i)) in
      let f = ap length d.2 in
      some_line room size r (row_line texts t i) (omega arith)
      ∙ ap (λ (x : Stage). stage_step room size x r (row_line texts t i)) st
      ∙ rw (row-closes-none m (length r.announced) (row_line texts t i) d.0 d.1 d.2 d.3, ← e, listed-read i l) refl

  row_is : (i : ℕ) → i < rows_of t → row_of (words t i) (probability_at t i) (backoff_at t i) ≡ row_at t i
  row_is i l = row_of-words t i (accepted-row t is.accepted i l).fields.good (row_in t i l)

  -- ---- the one_word section

  module _ (counts : List ℕ) where
    word_line : (i lines : ℕ) (rows : List (List ℤ)) (met next : List (List ℕ)) → i < length texts → length rows ≡ i
        → number_given met (get_or texts i []) ≡ suc i → with_text met (suc i) (get_or texts i []) ≡ next
        → line_step room size (standing (Section 1) counts lines rows met) (row_line texts t i) ≡ goes (standing (Section 1) counts (suc lines) (rows ++ (row_at t i ∷ [])) next)
    unfolding row_step word_step row_fits record_fits add_row
    word_line i lines rows met next l n e f =
        let w = is.ones i l in
        let few = is.fewer in
        let k : i < rows_of t = omega arith in
        let held = is.table-room in
        let stored = is.store-room in
        let long = whole in
        let m : length_of t i ≡ 1 = sym (words-length t i (row_in t i k)) ∙ ap length w in
        let z : suc i - 1 ≡ i = omega arith in
        let row : row_of (suc i ∷ []) (probability_at t i) (backoff_at t i) ≡ row_at t i = rw w at (row_is i k) in
        row_line_lem 1 (standing (Section 1) counts lines rows met) i refl k m
        ∙ rw (w, z, e, le-leb (8 * suc (length rows)) room (omega arith), le-leb (64 * suc (suc i)) size (omega arith), row, f) refl

    later_words : (k i : ℕ) (rows : List (List ℤ)) → 3 ≤ i → i + k ≡ length texts → length rows ≡ i
        → Reads room size (standing (Section 1) counts i rows (take i texts)) (map (row_line texts t) (count_up i k)) (standing (Section 1) counts (length texts) (rows ++ map (row_at t) (count_up i k)) texts)
    later_words zero i rows low e n =
        let f : i ≡ length texts = omega arith in
        ap₂ (λ (x : ℕ) (r : List (List ℤ)). standing (Section 1) counts x r (take i texts)) f (sym (append-nil rows))
        ∙ ap (standing (Section 1) counts (length texts) (rows ++ [])) (take_all i texts (omega arith))
    later_words (suc k) i rows low e n =
        let l : i < length texts = omega arith in (
          standing (Section 1) counts (suc i) (rows ++ (row_at t i ∷ [])) (take (suc i) texts),
          word_line i i rows (take i texts) (take (suc i) texts) l n (number_of-next texts is.distinct i low l is.unknown is.start is.end) (with_next_text texts i l),
          subst (λ (r : List (List ℤ)). Reads room size (standing (Section 1) counts (suc i) (rows ++ (row_at t i ∷ [])) (take (suc i) texts)) (map (row_line texts t) (count_up (suc i) k)) (standing (Section 1) counts (length texts) r texts))
              (append_assoc rows (row_at t i ∷ []) (map (row_at t) (count_up (suc i) k)))
              (later_words k (suc i) (rows ++ (row_at t i ∷ [])) (omega arith) (omega arith) (simp length-append (omega arith))),
        )

    word-lines : (k : ℕ) → length texts ≡ suc (suc (suc k))
        → Reads room size (standing (Section 1) counts 0 [] no_texts) (map (row_line texts t) (count_up 0 (suc (suc (suc k))))) (standing (Section 1) counts (length texts) (map (row_at t) (count_up 0 (suc (suc (suc k))))) texts)
    unfolding number_given reserved_number with_text search_from same_words
    word-lines k e = (
      standing (Section 1) counts 1 (row_at t 0 ∷ []) (unknown_text ∷ [] ∷ [] ∷ []),
      word_line 0 0 [] no_texts (unknown_text ∷ [] ∷ [] ∷ []) (omega arith) refl (rw is.unknown refl) (rw is.unknown refl),
      (
        standing (Section 1) counts 2 (row_at t 0 ∷ row_at t 1 ∷ []) (unknown_text ∷ start_text ∷ [] ∷ []),
        word_line 1 1 (row_at t 0 ∷ []) (unknown_text ∷ [] ∷ [] ∷ []) (unknown_text ∷ start_text ∷ [] ∷ []) (omega arith) refl (rw is.start refl) (rw is.start refl),
        (
          standing (Section 1) counts 3 (row_at t 0 ∷ row_at t 1 ∷ row_at t 2 ∷ []) (take 3 texts),
          word_line 2 2 (row_at t 0 ∷ row_at t 1 ∷ []) (unknown_text ∷ start_text ∷ [] ∷ []) (take 3 texts) (omega arith) refl (rw is.end refl) (rw is.end (sym (ap (take 3) (first_three texts (omega arith)) ∙ rw (is.unknown, is.start, is.end) refl))),
          later_words k 3 (row_at t 0 ∷ row_at t 1 ∷ row_at t 2 ∷ []) (omega arith) (omega arith) refl,
        ),
      ),
    )

    -- ---- the longer sections

    long_line : (m lines i : ℕ) (rows : List (List ℤ)) → 2 ≤ m → i < rows_of t → length_of t i ≡ m → length rows < rows_of t
        → line_step room size (standing (Section m) counts lines rows texts) (row_line texts t i) ≡ goes (standing (Section m) counts (suc lines) (rows ++ (row_at t i ∷ [])) texts)
    unfolding row_step longer_step row_fits add_row
    long_line m lines i rows low l e n =
        let held = is.table-room in
        let long = whole in
        row_line_lem m (standing (Section m) counts lines rows texts) i refl l e
        ∙ rw (ne_eqb m 1 (λ z. omega arith), numbers_of-words texts is.distinct (words t i) (known i l), known-none_missing (length texts) (words t i) (known i l), le-leb (8 * suc (length rows)) room (omega arith), row_is i l) refl

    long-lines : (m : ℕ) (indexes : List ℕ) (lines total : ℕ) (rows : List (List ℤ)) → 2 ≤ m → AllOf t m indexes → lines + length indexes ≡ total → length rows + length indexes ≤ rows_of t
        → Reads room size (standing (Section m) counts lines rows texts) (map (row_line texts t) indexes) (standing (Section m) counts total (rows ++ map (row_at t) indexes) texts)
    long-lines m [] lines total rows low a e n = ap₂ (λ (x : ℕ) (r : List (List ℤ)). standing (Section m) counts x r texts) (omega arith) (sym (append-nil rows))
    long-lines m (i ∷ indexes) lines total rows low a e n = (
      standing (Section m) counts (suc lines) (rows ++ (row_at t i ∷ [])) texts,
      long_line m lines i rows low a.0 a.1 (omega arith),
      subst (λ (r : List (List ℤ)). Reads room size (standing (Section m) counts (suc lines) (rows ++ (row_at t i ∷ [])) texts) (map (row_line texts t) indexes) (standing (Section m) counts total r texts))
          (append_assoc rows (row_at t i ∷ []) (map (row_at t) indexes))
          (long-lines m indexes (suc lines) total (rows ++ (row_at t i ∷ [])) low a.2 (omega arith) (simp length-append (omega arith))),
    )

    -- from the last line of section m on
    later_sections : (c m lines : ℕ) (rows : List (List ℤ)) → 1 ≤ m → m + c ≡ length counts → ((j : ℕ) → m ≤ j → j ≤ m + c → length (rows_with j t 0 (rows_of t)) ≡ get_or counts (j - 1) 0)
        → lines ≡ get_or counts (m - 1) 0 → length rows + length (section_rows t 0 (rows_of t) (suc m) c) ≤ rows_of t
        → Reads room size (standing (Section m) counts lines rows texts) (section_lines texts t (suc m) c ++ (end_line ∷ []))
        (standing Ended counts 0 (rows ++ map (row_at t) (section_rows t 0 (rows_of t) (suc m) c)) texts)
    unfolding section_lines
    later_sections zero m lines rows low e counted f n = (
      standing Ended counts 0 rows texts,
      close_last room size m counts lines rows texts (omega arith) f,
      ap (λ (r : List (List ℤ)). standing Ended counts 0 r texts) (sym (append-nil rows)),
    )
    later_sections (suc c) m lines rows low e counted f n =
        let here = rows_with (suc m) t 0 (rows_of t) in
        let rest = section_rows t 0 (rows_of t) (suc (suc m)) c in
        let size_is : length (here ++ rest) ≡ length here + length rest = length-append here rest in
        let mapped : length (map (row_at t) here) ≡ length here = length-map here (row_at t) in (
          standing (Section (suc m)) counts 0 rows texts,
          close_next room size m counts lines rows texts (omega arith) f,
          subst (λ (ls : List (List ℕ)). Reads room size (standing (Section (suc m)) counts 0 rows texts) ls (standing Ended counts 0 (rows ++ map (row_at t) (here ++ rest)) texts))
              (sym (append_assoc (map (row_line texts t) here) (section_lines texts t (suc (suc m)) c) (end_line ∷ [])))
              (reads_then room size (map (row_line texts t) here) (section_lines texts t (suc (suc m)) c ++ (end_line ∷ []))
              (standing (Section (suc m)) counts 0 rows texts) (standing (Section (suc m)) counts (length here) (rows ++ map (row_at t) here) texts) (standing Ended counts 0 (rows ++ map (row_at t) (here ++ rest)) texts)
              (long-lines (suc m) here 0 (length here) rows (omega arith) (all_of_length t (suc m) 0 (rows_of t) (omega arith)) (omega arith) (omega arith))
              (subst (λ (r : List (List ℤ)). Reads room size (standing (Section (suc m)) counts (length here) (rows ++ map (row_at t) here) texts) (section_lines texts t (suc (suc m)) c ++ (end_line ∷ [])) (standing Ended counts 0 r texts))
              (append_assoc rows (map (row_at t) here) (map (row_at t) rest) ∙ ap (λ (r : List (List ℤ)). rows ++ r) (sym (map-append (row_at t) here rest)))
              (later_sections c (suc m) (length here) (rows ++ map (row_at t) here) (omega arith) (omega arith) (λ j a b. counted j (omega arith) (omega arith)) (counted (suc m) (omega arith) (omega arith)) (omega (arith, length-append rows (map (row_at t) here)))))),
        )

  -- ---- no line has an LF

  rows_lack : (m : ℕ) (indexes : List ℕ) → AllOf t m indexes → AllLack 10 (map (row_line texts t) indexes)
  rows_lack m [] a = tt
  rows_lack m (i ∷ indexes) a = (row_lacks (probability_at t i) (backoff_at t i) (map (word_text texts) (words t i)) (row-texts i a.0), rows_lack m indexes a.2)

  counts_lack : (k m : ℕ) → m + k ≤ 6 → AllLack 10 (count_lines texts t m k)
  unfolding count_lines
  counts_lack zero m l = tt
  counts_lack (suc k) m l = (count_lacks m (length (rows_with m t 0 (rows_of t))) (omega arith), counts_lack k (suc m) (omega arith))

  sections_lack : (k m : ℕ) → AllLack 10 (section_lines texts t m k)
  unfolding section_lines
  sections_lack zero m = tt
  sections_lack (suc k) m =
      (section_lacks m, all_lack_append (map (row_line texts t) (rows_with m t 0 (rows_of t))) (section_lines texts t (suc m) k) (rows_lack m (rows_with m t 0 (rows_of t)) (all_of_length t m 0 (rows_of t) (omega arith))) (sections_lack k (suc m)))

  -- ---- the whole text

  some-rows : 0 < rows_of t
  some-rows = (accepted-size t is.accepted).0

  length_range : (j : ℕ) → j < rows_of t → (1 ≤ length_of t j) × (length_of t j ≤ order_of t)
  unfolding order_of
  length_range j l = let s = some-rows in (((accepted-good t is.accepted).row j l).some, lengths-ascend t (accepted-good t is.accepted) j (rows_of t - 1) (omega arith) (omega arith))

  all-rows : section_rows t 0 (rows_of t) 1 (order_of t) ≡ count_up 0 (rows_of t)
  all-rows =
      section_rows_lem t 1 (order_of t) 0 (rows_of t) (λ j l a b c. lengths-ascend t (accepted-good t is.accepted) j l b (omega arith))
      (λ j a b. let r = length_range j (omega arith) in let x = r.0 in let y = r.1 in (x, omega arith))

  one_word : rows_with 1 t 0 (rows_of t) ≡ count_up 0 (length texts)
  one_word =
      let few = is.fewer in
      one-word-rows t 0 (length texts) (rows_of t) few
      (λ j a b. let w = is.ones j (omega arith) in sym (words-length t j (row_in t j (omega arith))) ∙ ap length w)
      (λ j a b. is.longer j (omega arith) (omega arith))

  abbrev text_lines : ℕ → List (List ℕ)
  text_lines n = data_line ∷ (count_lines texts t 1 n ++ (section_lines texts t 1 n ++ (end_line ∷ [])))

  abbrev final : ℕ → Reading
  final n = standing Ended (section_counts t 1 n) 0 (rows_at t 0 (rows_of t)) texts

  sections_read : (c k : ℕ) → order_of t ≡ suc c → length texts ≡ suc (suc (suc k))
      → Reads room size (standing (Section 1) (section_counts t 1 (suc c)) 0 [] no_texts) (map (row_line texts t) (rows_with 1 t 0 (rows_of t)) ++ (section_lines texts t 2 c ++ (end_line ∷ []))) (final (suc c))
  sections_read c k e v =
      let counts = section_counts t 1 (suc c) in
      let ones = rows_with 1 t 0 (rows_of t) in
      let rest = section_rows t 0 (rows_of t) 2 c in
      let all : ones ++ rest ≡ count_up 0 (rows_of t) = ap (section_rows t 0 (rows_of t) 1) (sym e) ∙ all-rows in
      let first : ones ≡ count_up 0 (suc (suc (suc k))) = one_word ∙ ap (count_up 0) v in
      let many : length ones + length rest ≡ rows_of t = sym (length-append ones rest) ∙ ap length all ∙ count-length 0 (rows_of t) in
      let mapped : length (map (row_at t) ones) ≡ length ones = length-map ones (row_at t) in
      let counted : (j : ℕ) → 1 ≤ j → j ≤ 1 + c → length (rows_with j t 0 (rows_of t)) ≡ get_or counts (j - 1) 0 =
      λ j a b. ap (λ (x : ℕ). length (rows_with x t 0 (rows_of t))) (omega arith) ∙ sym (count_at t 1 (suc c) (j - 1) (omega arith)) in
      reads_then room size (map (row_line texts t) ones) (section_lines texts t 2 c ++ (end_line ∷ []))
      (standing (Section 1) counts 0 [] no_texts) (standing (Section 1) counts (length texts) (map (row_at t) ones) texts) (final (suc c))
      (subst (λ (indexes : List ℕ). Reads room size (standing (Section 1) counts 0 [] no_texts) (map (row_line texts t) indexes) (standing (Section 1) counts (length texts) (map (row_at t) indexes) texts)) (sym first)
      (word-lines counts k v))
      (subst (λ (r : List (List ℤ)). Reads room size (standing (Section 1) counts (length texts) (map (row_at t) ones) texts) (section_lines texts t 2 c ++ (end_line ∷ [])) (standing Ended counts 0 r texts))
      (sym (map-append (row_at t) ones rest) ∙ ap (map (row_at t)) all ∙ count-rows t 0 (rows_of t))
      (later_sections counts c 1 (length texts) (map (row_at t) ones) (omega arith) (omega (arith, counts-length t 1 (suc c))) counted
      (sym (ap length one_word ∙ count-length 0 (length texts)) ∙ counted 1 (omega arith) (omega arith)) (omega arith)))

  text-reads : (c k : ℕ) → order_of t ≡ suc c → length texts ≡ suc (suc (suc k)) → Reads room size unread (text_lines (suc c)) (final (suc c))
  unfolding section_lines line_step enter same_words
  text-reads c k e v =
      let counts = section_counts t 1 (suc c) in
      let few = (accepted-size t is.accepted).1 in
      let high : order_of t ≤ 5 = order_limit_lem t in (
        standing Counts [] 0 [] no_texts,
        refl,
        reads_then room size (count_lines texts t 1 (suc c)) (section_lines texts t 1 (suc c) ++ (end_line ∷ [])) (standing Counts [] 0 [] no_texts) (standing Counts counts 0 [] no_texts) (final (suc c))
            (counts-read room size texts t few (suc c) 1 [] refl (omega arith)) (
              standing (Section 1) counts 0 [] no_texts,
              first_heading room size counts (omega arith),
              subst (λ (ls : List (List ℕ)). Reads room size (standing (Section 1) counts 0 [] no_texts) ls (final (suc c)))
                  (sym (append_assoc (map (row_line texts t) (rows_with 1 t 0 (rows_of t))) (section_lines texts t 2 c) (end_line ∷ [])))
                  (sections_read c k e v),
            ),
      )

  text_lacks : AllLack 10 (text_lines (order_of t))
  text_lacks =
      let high = order_limit_lem t in (
        data_lacks,
        all_lack_append (count_lines texts t 1 (order_of t)) (section_lines texts t 1 (order_of t) ++ (end_line ∷ [])) (counts_lack (order_of t) 1 (omega arith))
            (all_lack_append (section_lines texts t 1 (order_of t)) (end_line ∷ []) (sections_lack (order_of t) 1) (end_lacks, tt)),
      )

  rows-ordered : ordered (final (order_of t)) ≡ t
  unfolding ordered
  rows-ordered = ap list_order (joined-all t (rows_of t) whole) ∙ accepted-list_order t is.accepted

  pub printed-reads-back : ReadsBack texts t room size
  unfolding read_arpa printed
  printed-reads-back =
      let s = some-rows in
      let low = length_range 0 s in
      let a = low.0 in
      let b = low.1 in
      let v = three_texts texts is.end in
      let e : order_of t ≡ suc (order_of t - 1) = omega arith in
      let reads : Reads room size unread (text_lines (order_of t)) (final (order_of t)) =
      subst (λ (n : ℕ). Reads room size unread (text_lines n) (final n)) (sym e) (text-reads (order_of t - 1) (length texts - 3) e (omega arith)) in
      record {
        reads =
            ap (λ (pieces : List (List ℕ)). lines_outcome false room size (read_lines room size unread 1 pieces)) (parts_of_lines (text_lines (order_of t)) text_lacks)
            ∙ ap (lines_outcome false room size) (lines-read room size (text_lines (order_of t)) unread (final (order_of t)) 1 reads refl)
            ∙ ap (judged room size (final (order_of t))) (ap verdict rows-ordered ∙ is.accepted)
            ∙ ap₂ (λ (n : ℕ) (l : List ℤ). record { answer = Read n; table = padded room l; store = store_with size texts }) (rows-count t 0 (rows_of t)) rows-ordered;
      }
