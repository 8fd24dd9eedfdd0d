-- The lines of a text, and what the totals program reads of LIST. Assumes nothing.
use Rattle.std.specs.Prelude.{◌≡◌, cond, ◌&&◌, List, [], ◌∷◌, ◌++◌, ℕ, suc, ◌*◌, ◌≤◌, eqb, leb, ℤ, take, Result, Ok, Err}
use Rattle.text_parts.specs.Parts.{before}
use Rattle.totals_text.specs.Lines.{is_list_line, list_row}

-- ---- lines

-- What stands before an LF, or what stands behind the last one, if anything does.
pub data Line : Type 0 where
  ended unended : List ℕ → Line

-- one character more at the front of the first line
unfoldable pub longer : ℕ → List Line → List Line
longer c [] = unended (c ∷ []) ∷ []
longer c (ended l ∷ ls) = ended (c ∷ l) ∷ ls
longer c (unended l ∷ ls) = unended (c ∷ l) ∷ ls

-- the lines of a text; 10 is LF
unfoldable pub lines_of : List ℕ → List Line
lines_of [] = []
lines_of (c ∷ text) = cond (eqb c 10) (ended [] ∷ lines_of text) (longer c (lines_of text))

-- where the first line of a text ends: at its first LF, or at the end of the text
abbrev pub line_end : List ℕ → ℕ
line_end text = before 10 text

-- ---- LIST

-- the numbers of its rows, or the number of its first line that is not in form
pub data ListText : Type 0 where
  rows : List ℤ → ListText
  not_in_form : ℕ → ListText

abbrev pub behind : List ℤ → ListText → ListText
behind row (rows table) = rows (row ++ table)
behind row (not_in_form k) = not_in_form k

-- "LF after every line; a line 513 gives 13". The first line has the number k
unfoldable pub read_list : ℕ → List Line → ListText
read_list k [] = rows []
read_list k (unended l ∷ ls) = not_in_form k
read_list k (ended l ∷ ls) = cond (leb k 512 && is_list_line l) (behind (list_row l) (read_list (suc k) ls)) (not_in_form k)

-- what the code answers, and the table that it leaves
abbrev pub ReadAs : List ℕ → Result ℕ ℕ → List ℤ → Type 0
ReadAs text (Ok n) table = (n ≤ 512) × (read_list 1 (lines_of text) ≡ rows (take (8 * n) table))
ReadAs text (Err k) table = read_list 1 (lines_of text) ≡ not_in_form k
