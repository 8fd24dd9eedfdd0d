-- The reading of an ARPA text, line by line, as T-02 of document 02 has it. `room` and `size` are the lengths of the lent table and of the lent store.
-- Assumes nothing.
use Rattle.std.specs.declared.option.Option.{Option}
use Rattle.std.specs.declared.option.Option.TheVariants.{Some, None}
use Rattle.std.specs.Prelude.{Bool, cond, ◌&&◌, List, [], ◌∷◌, ◌++◌, map, ℕ, suc, ◌*◌, eqb, leb, ℤ, length, get_or}
use Rattle.backoff.specs.Refusal.{short_slice, line_form, unlisted_text}
use Rattle.backoff.specs.Words.{same_words}
use Rattle.arpa_headings.specs.Headings.{data_line}
use Rattle.arpa_text.specs.Lines.{Listed, read_row}
use Rattle.arpa_words.specs.Words.{number_met, number_given, with_text, some_missing}
use Rattle.arpa_sections.specs.Sections.{Reading, Step, goes, refused_by, enter, data_step, closes, close_section, row_of}
use Rattle.arpa_sections.specs.declared.Stage.{Stage}
use Rattle.arpa_sections.specs.declared.Stage.TheVariants.{Start, Counts, Section, Ended}

-- ---- the rows of sections

unfoldable pub add_row : Reading → List ℤ → List (List ℕ) → Reading
add_row r row texts = record { stage = r.stage; announced = r.announced; lines = suc r.lines; rows = r.rows ++ (row ∷ []); texts = texts }

-- 15 is for a line "whose row or text no longer fits": whether one more row fits, and record k
unfoldable pub row_fits : ℕ → Reading → Bool
row_fits room r = leb (8 * suc (length r.rows)) room

unfoldable pub record_fits : ℕ → ℕ → Bool
record_fits size k = leb (64 * suc k) size

-- a line of the one-word section, whose word becomes word k
unfoldable pub word_step : ℕ → ℕ → Reading → Listed → List ℕ → ℕ → Step
word_step room size r l text k =
    cond (row_fits room r && record_fits size k)
    (goes (add_row r (row_of (k ∷ []) l.p l.b) (with_text r.texts k text)))
    (refused_by short_slice)

-- a line of a longer section, whose words have these numbers. "18 for a word without a one-word line"; "15 .. comes after that line's 17 and 18"
unfoldable pub longer_step : ℕ → Reading → Listed → List ℕ → Step
longer_step room r l words =
    cond (some_missing words) (refused_by unlisted_text)
    (cond (row_fits room r) (goes (add_row r (row_of words l.p l.b) r.texts))
    (refused_by short_slice))

-- "17 for a line not in this form"
unfoldable pub row_step : ℕ → ℕ → ℕ → Reading → Option Listed → Step
row_step room size m r None = refused_by line_form
row_step room size m r (Some l) =
    cond (eqb m 1)
    (word_step room size r l (get_or l.texts 0 []) (number_given r.texts (get_or l.texts 0 [])))
    (longer_step room r l (map (number_met r.texts) l.texts))

unfoldable pub section_step : ℕ → ℕ → ℕ → Reading → List ℕ → Step
section_step room size m r line =
    cond (closes m (length r.announced) line) (close_section m r)
    (row_step room size m r (read_row m line))

-- ---- the whole text

abbrev pub stage_step : ℕ → ℕ → Stage → Reading → List ℕ → Step
stage_step room size Start r line = cond (same_words line data_line) (goes (enter Counts r)) (refused_by line_form)
stage_step room size Counts r line = data_step r line
stage_step room size (Section m) r line = section_step room size m r line
stage_step room size Ended r line = refused_by line_form

-- "Each line .. has its place in this form or is empty and skipped."
unfoldable pub line_step : ℕ → ℕ → Reading → List ℕ → Step
line_step room size r [] = goes r
line_step room size r (c ∷ line) = stage_step room size r.stage r (c ∷ line)

-- what the lines come to: the reading that the end line closed, or a refusal's number and line
pub data Lines : Type 0 where
  done : Reading → Lines
  stopped : ℕ → ℕ → Lines

abbrev pub onward : (Reading → Lines) → ℕ → Step → Lines
onward rest k (goes r) = rest r
onward rest k (refused_by number) = stopped number k

-- The last piece, line k: "Each line ends with LF", so that nothing may stand behind the last LF, and "17 for a line .. missing at the file's end".
abbrev pub last_piece : Stage → Reading → ℕ → List ℕ → Lines
last_piece Ended r k [] = done r
last_piece Ended r k (c ∷ piece) = stopped line_form k
last_piece Start r k piece = stopped line_form k
last_piece Counts r k piece = stopped line_form k
last_piece (Section m) r k piece = stopped line_form k

-- the pieces between the LFs, of which all but the last are lines, from line k on
unfoldable pub read_lines : ℕ → ℕ → Reading → ℕ → List (List ℕ) → Lines
read_lines room size r k [] = stopped line_form k
read_lines room size r k (piece ∷ []) = last_piece r.stage r k piece
read_lines room size r k (line ∷ next ∷ pieces) = onward (λ (s : Reading). read_lines room size s (suc k) (next ∷ pieces)) k (line_step room size r line)
