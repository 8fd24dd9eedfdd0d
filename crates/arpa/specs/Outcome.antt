-- What the reading of an ARPA text answers, and the lent table and store at exit. Assumes nothing.
use Rattle.std.specs.Prelude.{◌≡◌, Bool, List, ℕ, ℤ}
use Rattle.text_parts.specs.Parts.{parts}
use Rattle.arpa_sections.specs.Sections.{unread}
use Rattle.arpa_lines.specs.Reading.{read_lines}
use Rattle.arpa_reading.specs.Outcome.{Outcome, lines_outcome}
use Rattle.arpa_reading.specs.Rows.{Rows}

-- the whole text, a lent table of `room` numbers and a lent store of `size` bytes
unfoldable pub read_arpa : Bool → ℕ → ℕ → List ℕ → Outcome
read_arpa filling room size text = lines_outcome filling room size (read_lines room size unread 1 (parts 10 text))

-- what a call leaves
pub record Leaves (o : Outcome) (answer : Rows) (table : List ℤ) (store : List ℕ) : Type 0 where
  pub answer-is : answer ≡ o.answer
  pub table_is : table ≡ o.table
  pub store_is : store ≡ o.store
