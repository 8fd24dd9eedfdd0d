-- What the totals program prints for the bytes of LIST and TEXT. A file that cannot be opened counts as one with no bytes. Assumes nothing.
use Rattle.std.specs.Prelude.{◌≡◌, List, ℕ, ℤ, pos, replicate}
use Rattle.backoff.specs.Refusal.{text_line}
use Rattle.backoff.specs.Refusal.{Verdict}
use Rattle.backoff.specs.Refusal.{Accepted, Refused}
use Rattle.list.specs.ListModel.{model_of}
use Rattle.placed_list.specs.Build.{Built}
use Rattle.build.specs.Build.{build_outcome}
use Rattle.totals_text.specs.Lines.{refused_line}
use Rattle.totals_list.specs.List.{lines_of, ListText, rows, not_in_form, read_list}
use Rattle.totals_lines.specs.Text.{text_output}

-- "the array has 4,096 slots". Build's answer does not depend on what stands in them
abbrev pub built : List ℤ → Built
built table = build_outcome table (replicate 4096 (pos 0)) (replicate 4096 (pos 0)) (replicate 512 0)

-- the arrays that an accepted build of a table left
pub record HoldsBuilt (base check : List ℤ) : Type 0 where
  pub table : List ℤ
  pub accepted : (built table).answer ≡ Accepted
  pub base-is : base ≡ (built table).base
  pub check-is : check ≡ (built table).check

abbrev pub built_output : List ℤ → Verdict → List ℕ → List ℕ
built_output table Accepted text = text_output (model_of table) 1 (lines_of text)
built_output table (Refused number place) text = refused_line number place

abbrev pub listed_output : ListText → List ℕ → List ℕ
listed_output (rows table) text = built_output table (built table).answer text
listed_output (not_in_form k) text = refused_line text_line k

-- "It reads LIST .. whole, builds, then reads TEXT"
unfoldable pub totals_output : List ℕ → List ℕ → List ℕ
totals_output list text = listed_output (read_list 1 (lines_of list)) text
