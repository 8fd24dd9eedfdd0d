-- An ARPA text printed from an accepted list and its words' texts, as `printed-reads-back` reads it again. Assumes nothing.
use Rattle.std.specs.Prelude.{◌≡◌, true, cond, false, List, [], ◌∷◌, ◌++◌, map, ℕ, zero, suc, ◌+◌, ◌*◌, ◌-◌, ◌/◌, ◌%◌, ◌^◌, ◌<◌, ◌≤◌, eqb, ℤ, pos, negsuc, length, get_or}
use Rattle.backoff.specs.NineNumbers.{padded}
use Rattle.backoff.specs.Refusal.{Accepted}
use Rattle.rows.specs.Table.{rows_of, length_of, order_of, words, probability_at, backoff_at}
use Rattle.list.specs.Check.{verdict}
use Rattle.decimal.specs.Digits.{digits}
use Rattle.arpa_headings.specs.Headings.{data_line, section_line, end_line, count_head}
use Rattle.arpa_logs.specs.Logs.{point_decimals}
use Rattle.arpa_text.specs.Lines.{is_text}
use Rattle.arpa_words.specs.Words.{unknown_text, start_text, end_text, store_with}
use Rattle.arpa_reading.specs.Rows.{Read}
use Rattle.arpa.specs.Outcome.{read_arpa}

-- the lines one after the other, each with its LF
unfoldable pub with_ends : List (List ℕ) → List ℕ
with_ends [] = []
with_ends (line ∷ lines) = line ++ (10 ∷ with_ends lines)

-- ---- a line

-- the last k decimal digits of n, zeros in front among them
unfoldable pub last_digits : ℕ → ℕ → List ℕ
last_digits zero n = []
last_digits (suc k) n = last_digits k (n / 10) ++ ((48 + n % 10) ∷ [])

-- so many points as a log with the decimals of a point
unfoldable pub print_size : ℕ → List ℕ
print_size n = digits (n / 10 ^ point_decimals) ++ (46 ∷ last_digits point_decimals n)

unfoldable pub print_log : ℤ → List ℕ
print_log (pos n) = print_size n
print_log (negsuc n) = 45 ∷ print_size (suc n)

unfoldable pub spaced : List (List ℕ) → List ℕ
spaced [] = []
spaced (text ∷ []) = text
spaced (text ∷ next ∷ texts) = text ++ (32 ∷ spaced (next ∷ texts))

unfoldable pub print_row : ℤ → List (List ℕ) → ℤ → List ℕ
print_row p texts b = print_log p ++ (9 ∷ (spaced texts ++ (9 ∷ print_log b)))

unfoldable pub print_count : ℕ → ℕ → List ℕ
print_count m count = count_head m ++ (61 ∷ digits count)

-- ---- the text

-- the rows of length m among the k rows from row i on
unfoldable pub rows_with : ℕ → List ℤ → ℕ → ℕ → List ℕ
rows_with m t i zero = []
rows_with m t i (suc k) = cond (eqb (length_of t i) m) (i ∷ rows_with m t (suc i) k) (rows_with m t (suc i) k)

-- the text of word w
abbrev pub word_text : List (List ℕ) → ℕ → List ℕ
word_text texts w = get_or texts (w - 1) []

module _ (texts : List (List ℕ)) (t : List ℤ) where
  abbrev pub row_line : ℕ → List ℕ
  row_line i = print_row (probability_at t i) (map (word_text texts) (words t i)) (backoff_at t i)

  -- for the k lengths from m on
  unfoldable pub count_lines : ℕ → ℕ → List (List ℕ)
  count_lines m zero = []
  count_lines m (suc k) = print_count m (length (rows_with m t 0 (rows_of t))) ∷ count_lines (suc m) k

  unfoldable pub section_lines : ℕ → ℕ → List (List ℕ)
  section_lines m zero = []
  section_lines m (suc k) = (section_line m ∷ map row_line (rows_with m t 0 (rows_of t))) ++ section_lines (suc m) k

  unfoldable pub printed : List ℕ
  printed = with_ends (data_line ∷ (count_lines 1 (order_of t) ++ (section_lines 1 (order_of t) ++ (end_line ∷ []))))

  -- an accepted list whose one-word rows are the words 1 to V, with distinct texts for them in which 1, 2, 3 have theirs, and buffers that hold it
  pub record Printable (room size : ℕ) : Type 0 where
    pub accepted : verdict t ≡ Accepted
    pub fewer : length texts ≤ rows_of t
    pub ones : (i : ℕ) → i < length texts → words t i ≡ suc i ∷ []
    pub longer : (i : ℕ) → length texts ≤ i → i < rows_of t → 2 ≤ length_of t i
    pub in_form_lem : (i : ℕ) → i < length texts → is_text (get_or texts i []) ≡ true
    pub distinct : (i j : ℕ) → i < j → j < length texts → get_or texts i [] ≡ get_or texts j [] → ⊥
    pub unknown : get_or texts 0 [] ≡ unknown_text
    pub start : get_or texts 1 [] ≡ start_text
    pub end : get_or texts 2 [] ≡ end_text
    pub table-room : length t ≤ room
    pub store-room : 64 * suc (length texts) ≤ size

  -- the printed text reads as that list and those texts
  pub record ReadsBack (room size : ℕ) : Type 0 where
    pub reads : read_arpa false room size printed ≡ record { answer = Read (rows_of t); table = padded room t; store = store_with size texts }
