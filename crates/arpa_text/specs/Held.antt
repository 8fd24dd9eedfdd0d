-- How the code holds what it has read of a line. Only contracts of inner functions cite what is here. Assumes nothing.
use Rattle.std.specs.declared.option.Option.{Option}
use Rattle.std.specs.declared.option.Option.TheVariants.{Some, None}
use lib.IntN.{ℤ}
use Rattle.std.specs.Prelude.{List, [], ◌∷◌, ℕ, ◌-◌, ◌≤◌, pos, length, take, drop}
use Rattle.text_parts.specs.Parts.{parts}
use Rattle.arpa_logs.specs.Logs.{read_points}
use Rattle.arpa_text.specs.Lines.{Listed}
use Rattle.arpa_text.specs.declared.RowLine.{RowLine}

-- what stands behind the words: nothing, or a tab and a log
unfoldable pub backoff_behind : List ℕ → Option ℤ
backoff_behind [] = Some (pos 0)
backoff_behind (tab ∷ text) = read_points text

-- the words stand from place `from` to place `to` of the line
abbrev pub listed_at : List ℕ → Option RowLine → Option Listed
listed_at line (Some row) = Some (record { p = row.p; b = row.b; texts = parts 32 (take (row.to - row.from) (drop row.from line)) })
listed_at line None = None

abbrev pub Inside : List ℕ → Option RowLine → Type 0
Inside line (Some row) = (row.from ≤ row.to) × (row.to ≤ length line)
Inside line None = Unit {0}
