-- What the functions over TEXT are held to. Assumes nothing.
use Rattle.std.specs.Prelude.{◌≡◌, true, false, cond, List, [], ◌++◌, ℕ, ◌+◌, ◌≤◌, eqb, length, take}
use Rattle.backoff.specs.Refusal.{text_line}
use Rattle.backoff.specs.Model.{Model}
use Rattle.totals_text.specs.Lines.{is_text_line, refused_line}
use Rattle.totals_list.specs.List.{lines_of, line_end}
use Rattle.totals_sentence.specs.declared.Printed.{Printed}
use Rattle.totals_sentence.specs.Steps.{line_output}
use Rattle.totals_lines.specs.declared.Progress.{Progress}
use Rattle.totals_lines.specs.Text.{text_output}

-- what a line of TEXT prints stands in `out` behind `before`, up to `end`
pub record PrintedAs (M : Model) (k : ℕ) (line : List ℕ) (r : Printed) (before : List ℕ) (end : ℕ) (out : List ℕ) : Type 0 where
  pub accepted : r.accepted ≡ is_text_line line
  pub room : r.length ≤ 64
  pub text : take end out ≡ before ++ line_output M k line

-- the line that has begun has no LF, and the buffer has room for the longest line
pub record Begun (progress : Progress) (line : List ℕ) : Type 0 where
  pub buffer : length line ≡ 512
  pub room : progress.count ≤ 512
  pub no_end : line_end (take progress.count line) ≡ progress.count

-- what is printed for a line that has begun and all that follows it
abbrev pub output_from : Model → Progress → List ℕ → List ℕ → List ℕ
output_from M progress line rest = text_output M progress.number (lines_of (take progress.count line ++ rest))

-- A piece of TEXT was read and `text` printed: whatever follows the piece, the whole output begins with it, and goes on unless it has ended with a
-- refusal.
pub record Fed (M : Model) (piece : List ℕ) (before : Progress) (line : List ℕ) (after : Progress) (left : List ℕ) (text : List ℕ) : Type 0 where
  pub begun : Begun after left
  pub number : after.number ≤ before.number + length piece
  pub ended : after.ended ≡ true → (rest : List ℕ) → output_from M before line (piece ++ rest) ≡ text
  pub onward : after.ended ≡ false → (rest : List ℕ) → output_from M before line (piece ++ rest) ≡ text ++ output_from M after left rest

-- what is printed at the end of TEXT, where so many characters of line k have come
unfoldable pub finished : ℕ → ℕ → List ℕ
finished k count = cond (eqb count 0) [] (refused_line text_line k)
