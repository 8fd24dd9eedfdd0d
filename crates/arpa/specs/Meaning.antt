-- What the answers of the reader mean, told without the reading's steps: what is read of a text, and what refuses it. Assumes nothing.
use Rattle.std.specs.declared.option.Option.{Option}
use Rattle.std.specs.declared.option.Option.TheVariants.{Some, None}
use Rattle.std.specs.Prelude.{◌≡◌, ◌↔◌, Bool, false, cond, ◌&&◌, ℕ, suc, ◌+◌, ◌*◌, ◌-◌, ◌/◌, ◌≤◌, ◌<◌, eqb, ltb, ℤ, length, get_or, take}
use mathlib.Core.List.{List, [], ◌∷◌, ◌++◌, map, Memᴰ}
use Rattle.backoff.specs.Limits.{order_limit, unknown_word, start_word, end_word}
use Rattle.backoff.specs.Refusal.{short_slice, line_form, unlisted_text, section_count}
use Rattle.backoff.specs.Model.{AcceptedModel}
use Rattle.backoff.specs.NineNumbers.{padded}
use Rattle.backoff.specs.Refusal.{Accepted}
use Rattle.list.specs.Check.{verdict_for}
use Rattle.list.specs.ListModel.{model_of}
use Rattle.list.specs.Meaning.{VerdictMeans}
use Rattle.row_order.specs.RowOrder.{sort_by, row_before, joined}
use Rattle.word_index.specs.Texts.{texts_from}
use Rattle.text_parts.specs.Parts.{parts, before}
use Rattle.arpa_headings.specs.Headings.{data_line, section_line, end_line, read_count}
use Rattle.arpa_text.specs.Lines.{Listed, read_row}
use Rattle.arpa_words.specs.Words.{unknown_text, start_text, end_text, reserved_number, number_met, store_with}
use Rattle.arpa_sections.specs.Sections.{row_of}

-- the lines that have a tab: those of rows
unfoldable pub row_lines : List (List ℕ) → List (List ℕ)
row_lines [] = []
row_lines (line ∷ lines) = cond (ltb (before 9 line) (length line)) (line ∷ row_lines lines) (row_lines lines)

-- how many words stand between a line's first two tabs
unfoldable pub word_count : List ℕ → ℕ
word_count line = length (parts 32 (get_or (parts 9 line) 1 []))

abbrev pub texts_in : Option Listed → List (List ℕ)
texts_in None = []
texts_in (Some l) = l.texts

-- the texts of a line of so many words
unfoldable pub line_texts : List ℕ → List (List ℕ)
line_texts line = texts_in (read_row (word_count line) line)

-- a line's row, where `number` gives a text its number
abbrev pub row_with : (List ℕ → ℕ) → Option Listed → List ℤ
row_with number None = []
row_with number (Some l) = row_of (map number l.texts) l.p l.b

unfoldable pub line_row : (List ℕ → ℕ) → List ℕ → List ℤ
line_row number line = row_with number (read_row (word_count line) line)

-- the texts of the one-word lines
unfoldable pub word_texts : List (List ℕ) → List (List ℕ)
word_texts [] = []
word_texts (line ∷ lines) = cond (eqb (word_count line) 1) (get_or (line_texts line) 0 [] ∷ word_texts lines) (word_texts lines)

-- the texts met, and behind them this one, unless it is met or reserved
unfoldable pub with_new : List (List ℕ) → List ℕ → List (List ℕ)
with_new met text = cond (eqb (reserved_number text) 0 && eqb (number_met met text) 0) (met ++ (text ∷ [])) met

-- the texts met, and behind them the others that are not reserved, each once, in the order of meeting
unfoldable pub new_texts : List (List ℕ) → List (List ℕ) → List (List ℕ)
new_texts met [] = met
new_texts met (text ∷ texts) = new_texts (with_new met text) texts

-- the first record of a store that holds a text, 0 where none does; a record that is not filled holds the empty text
unfoldable pub number_stored : List ℕ → List ℕ → ℕ
number_stored store text = number_met (texts_from store 1 (length store / 64 - 1)) text

-- two texts of a store have one number exactly if they are equal
abbrev pub EachItsOwn : List ℕ → Type 0
EachItsOwn store = (u v : List ℕ) → 0 < number_stored store u → 0 < number_stored store v → (number_stored store u ≡ number_stored store v) ↔ (u ≡ v)

-- an accepted call over a text: its row count, and the table and store that it left
pub record ReadsTheLines (filling : Bool) (text : List ℕ) (rows : ℕ) (table : List ℤ) (store : List ℕ) : Type 0 where
  -- the rows are exactly the lines' rows, no more and no fewer, each with its words' numbers, its p and its b, in list order
  pub in_form_lem : (line : List ℕ) → Memᴰ line (row_lines (parts 10 text)) → (l : Listed) × (read_row (word_count line) line ≡ Some l)
  pub count : rows ≡ length (row_lines (parts 10 text))
  pub listed : table ≡ padded (length table) (joined (sort_by row_before (map (line_row (number_stored store)) (row_lines (parts 10 text)))))
  -- the words' texts: `<unk>`, `<s>`, `</s>`, then the others as the one-word lines bring them
  pub stored : store ≡ store_with (length store) (unknown_text ∷ start_text ∷ end_text ∷ new_texts [] (word_texts (row_lines (parts 10 text))))
  pub unknown : number_stored store unknown_text ≡ unknown_word
  pub start : number_stored store start_text ≡ start_word
  pub end : number_stored store end_text ≡ end_word
  pub others : (i : ℕ) → i < length (new_texts [] (word_texts (row_lines (parts 10 text)))) → number_stored store (get_or (new_texts [] (word_texts (row_lines (parts 10 text)))) i []) ≡ 4 + i
  pub same : EachItsOwn store
  -- each text of a row has a number
  pub known : (line : List ℕ) → Memᴰ line (row_lines (parts 10 text)) → (u : List ℕ) → Memᴰ u (line_texts line) → 0 < number_stored store u
  -- the rows are an accepted list, as it is or to be filled: build accepts it or says 10, or filling accepts it or says 5, 1 or 15
  pub accepted : verdict_for filling (take (8 * rows) table) ≡ Accepted

-- ---- what is wrong with a line

-- where lines have come to: before `\data\`, behind these counts, behind so many lines of the section of length m, behind `\end\`
pub data Position : Type 0 where
  at-start : Position
  in_counts : (counts : List ℕ) → Position
  in_section : (counts : List ℕ) (m lines : ℕ) → Position
  at-end : Position

-- "a data section with counts, one section a length, an end line": a line behind the one position has its place in this form, and leads to the other
pub data Leads : Position → List ℕ → Position → Type 0 where
  -- "or is empty and skipped"
  skipped : (q : Position) → Leads q [] q
  data_line_lem : Leads at-start data_line (in_counts [])
  -- "one to five lengths are announced, from 1 upwards, and their sections follow so"
  count_line : (counts line : List ℕ) (c : ℕ) → length counts < order_limit → read_count (suc (length counts)) line ≡ Some c → Leads (in_counts counts) line (in_counts (counts ++ (c ∷ [])))
  first_heading : (counts : List ℕ) → 1 ≤ length counts → Leads (in_counts counts) (section_line 1) (in_section counts 1 0)
  row_of_lem : (counts : List ℕ) (m lines : ℕ) (line : List ℕ) (l : Listed) → read_row m line ≡ Some l → Leads (in_section counts m lines) line (in_section counts m (suc lines))
  next_heading : (counts : List ℕ) (m lines : ℕ) → m < length counts → Leads (in_section counts m lines) (section_line (suc m)) (in_section counts (suc m) 0)
  end_line_lem : (counts : List ℕ) (m lines : ℕ) → length counts ≤ m → Leads (in_section counts m lines) end_line at-end

-- the count announced for the length m
abbrev pub count_of : List ℕ → ℕ → ℕ
count_of counts m = get_or counts (m - 1) 0

-- a text's number by the lines of rows: "`<unk>`, `<s>` and `</s>` become 1, 2, 3; the others count up from 4 as the one-word section brings them"
unfoldable pub number_by : List (List ℕ) → List ℕ → ℕ
number_by lines text = number_met (unknown_text ∷ start_text ∷ end_text ∷ new_texts [] (word_texts lines)) text

-- a text with a one-word line
abbrev pub HasLine : List (List ℕ) → List ℕ → Type 0
HasLine lines u = Memᴰ u (word_texts (row_lines lines))

-- The lent table has `room` numbers, the lent store `size` bytes.
module _ (room size : ℕ) where
  -- the number that meets a line behind the lines `earlier`, which have come to this position
  pub data LineMeets (earlier : List (List ℕ)) : Position → List ℕ → ℕ → Type 0 where
    -- "17 for a line not in this form"
    not-in_form : (q : Position) (line : List ℕ) → ((q' : Position) → Leads q line q' → ⊥) → LineMeets earlier q line line_form
    -- "18 for a word without a one-word line"
    no-word_line : (counts : List ℕ) (m lines : ℕ) (line : List ℕ) (l : Listed) → read_row m line ≡ Some l → (m ≡ 1 → ⊥)
        → (u : List ℕ) → Memᴰ u l.texts → (HasLine earlier u → ⊥) → LineMeets earlier (in_section counts m lines) line unlisted_text
    -- "19 for a section whose line count is not the one announced, .. the next heading or the end line"
    heading_count : (counts : List ℕ) (m lines : ℕ) → m < length counts → (lines ≡ count_of counts m → ⊥) → LineMeets earlier (in_section counts m lines) (section_line (suc m)) section_count
    end-count : (counts : List ℕ) (m lines : ℕ) → length counts ≤ m → (lines ≡ count_of counts m → ⊥) → LineMeets earlier (in_section counts m lines) end_line section_count
    -- "15 with the line whose row or text no longer fits comes after that line's 17 and 18"
    row-no-longer-fits : (counts : List ℕ) (m lines : ℕ) (line : List ℕ) (l : Listed) → read_row m line ≡ Some l
        → ((m ≡ 1 → ⊥) → (u : List ℕ) → Memᴰ u l.texts → HasLine earlier u)
        → room < 8 * suc (length (row_lines earlier)) → LineMeets earlier (in_section counts m lines) line short_slice
    text-no-longer-fits : (counts : List ℕ) (lines : ℕ) (line : List ℕ) (l : Listed) → read_row 1 line ≡ Some l
        → (u : List ℕ) → Memᴰ u l.texts
        → size < 64 * suc (number_by (row_lines (earlier ++ (line ∷ []))) u) → LineMeets earlier (in_section counts 1 lines) line short_slice

  -- lines that have come to a position, and nothing meets one of them
  pub data ReadTo : List (List ℕ) → Position → Type 0 where
    no_lines : ReadTo [] at-start
    one_more : (earlier : List (List ℕ)) (line : List ℕ) (q q' : Position) → ReadTo earlier q → ((n : ℕ) → LineMeets earlier q line n → ⊥) → Leads q line q'
        → ReadTo (earlier ++ (line ∷ [])) q'

-- "Each line ends with LF": the pieces between the LFs are lines, but for the last
unfoldable pub lines_in : List (List ℕ) → List (List ℕ)
lines_in [] = []
lines_in (piece ∷ []) = []
lines_in (line ∷ next ∷ pieces) = line ∷ lines_in (next ∷ pieces)

unfoldable pub last_in : List (List ℕ) → List ℕ
last_in [] = []
last_in (piece ∷ []) = piece
last_in (line ∷ next ∷ pieces) = last_in (next ∷ pieces)

-- nothing meets a line, the last that is not empty is the end line, and nothing stands behind the last LF
pub record AllRead (room size : ℕ) (text : List ℕ) : Type 0 where
  pub lines : ReadTo room size (lines_in (parts 10 text)) at-end
  pub last : last_in (parts 10 text) ≡ []

-- "the same rows in list order"
unfoldable pub list_of : List ℕ → List ℤ
list_of text = joined (sort_by row_before (map (line_row (number_by (row_lines (parts 10 text)))) (row_lines (parts 10 text))))

module _ (filling : Bool) (room size : ℕ) (text : List ℕ) where
  -- what refuses a text, by its number and place
  pub data ReadRefusedBy : ℕ → ℕ → Type 0 where
    -- 17, 18, 19 or 15 "with its line", and nothing at an earlier one
    at_line : (earlier : List (List ℕ)) (line : List ℕ) (later : List (List ℕ)) → lines_in (parts 10 text) ≡ earlier ++ (line ∷ later)
        → (q : Position) → ReadTo room size earlier q → (n : ℕ) → LineMeets room size earlier q line n → ReadRefusedBy n (suc (length earlier))
    -- "17 for a line .. missing at the file's end": the end line, or the LF that ends a line
    no-end_line : (q : Position) → ReadTo room size (lines_in (parts 10 text)) q → (q ≡ at-end → ⊥) → ReadRefusedBy line_form (suc (length (lines_in (parts 10 text))))
    no-line_end : (q : Position) → ReadTo room size (lines_in (parts 10 text)) q → (last_in (parts 10 text) ≡ [] → ⊥) → ReadRefusedBy line_form (suc (length (lines_in (parts 10 text))))
    -- "The list checks then apply to it": 1, row by row 3 to 8, and 9
    bad_list : AllRead room size text → (n p : ℕ) → (n ≡ 0 → ⊥) → VerdictMeans filling (list_of text) n p → ReadRefusedBy n p

-- What an answer means, with the table and the store that it leaves: its number 0 says that all lines are read, and that the rows are a back-off model if they are not
-- to be filled.
pub record ReadMeans (filling : Bool) (text : List ℕ) (number place rows : ℕ) (table : List ℤ) (store : List ℕ) : Type 0 where
  pub lines : number ≡ 0 → ReadsTheLines filling text rows table store
  pub model : number ≡ 0 → filling ≡ false → AcceptedModel (model_of (take (8 * rows) table))
  pub all_read : number ≡ 0 → AllRead (length table) (length store) text
  pub no_place : number ≡ 0 → place ≡ 0
  pub refused : (number ≡ 0 → ⊥) → ReadRefusedBy filling (length table) (length store) text number place
