-- What the lent table and store hold once the lines are read. Only contracts of inner functions cite what is here. Assumes nothing.
use Rattle.std.specs.declared.result.Result.{Result}
use Rattle.std.specs.declared.result.Result.TheVariants.{Ok, Err}
use Rattle.std.specs.Prelude.{◌≡◌, Bool, ℕ, suc, ◌+◌, ◌*◌, ◌<◌, ◌≤◌, ℤ, length}
use mathlib.Core.List.{List, Memᴰ}
use Rattle.backoff.specs.Limits.{row_limit}
use Rattle.backoff.specs.NineNumbers.{padded}
use Rattle.backoff.specs.Refusal.{Verdict}
use Rattle.backoff.specs.Refusal.{Accepted, reason_number}
use Rattle.backoff.specs.declared.Refusal.{Refusal}
use Rattle.list.specs.Check.{verdict_for}
use Rattle.row_order.specs.RowOrder.{SortableFront}
use Rattle.row_order.specs.Sorting.{AllNumbered}
use Rattle.arpa_words.specs.Words.{store_with}
use Rattle.arpa_sections.specs.Sections.{Reading}
use Rattle.arpa_sections.specs.Held.{TableHeld, FreeRow, RowSound}
use Rattle.arpa_lines.specs.Reading.{Lines, done, stopped}
use Rattle.arpa_reading.specs.Outcome.{ordered, lines_outcome}
use Rattle.arpa_reading.specs.declared.Ending.{Ending}
use Rattle.arpa_reading.specs.Rows.{Rows, Read}

-- the rows of the table once all lines are read
pub record EndHeld (t : List ℤ) (rows ones words : ℕ) (a : Reading) : Type 0 where
  pub count : rows ≡ length a.rows
  pub row_room : 8 * rows ≤ length t
  pub fewer : ones ≤ rows
  pub next : words ≡ suc (length a.texts)
  pub sound : (row : List ℤ) → Memᴰ row a.rows → RowSound words row
  pub word_count : words ≤ ones + 4
  pub table : rows ≤ row_limit → TableHeld t a.rows ones
  pub free : (i : ℕ) → i < ones → FreeRow a.rows i

abbrev pub LinesHeld : ℕ → ℕ → List ℤ → List ℕ → Lines → Result Ending (Refusal ℕ) → Type 0
LinesHeld room size t s (done a) (Ok e) = (length t ≡ room) × (s ≡ store_with size a.texts) × EndHeld t e.rows e.ones e.words a
LinesHeld room size t s (done a) (Err r) = ⊥
LinesHeld room size t s (stopped number place) (Ok e) = ⊥
LinesHeld room size t s (stopped number place) (Err r) = (reason_number r.reason ≡ number) × (r.place ≡ place) × (length t ≡ room) × (length s ≡ size)

-- the first rows can be sorted: by their keys, or where a number is too large for a word by insertion
pub record Ordering (t : List ℤ) (rows words : ℕ) : Type 0 where
  pub words_fit : words ≤ 65536 → SortableFront t rows
  pub numbered : AllNumbered t rows

pub record Judged (filling : Bool) (t : List ℤ) (a : Reading) (v : Verdict) (room : ℕ) : Type 0 where
  pub verdict-is : v ≡ verdict_for filling (ordered a)
  pub long : length t ≡ room
  pub table : v ≡ Accepted → t ≡ padded room (ordered a)
  pub few : v ≡ Accepted → length a.rows ≤ row_limit

-- the answer is that of the outcome, and where it is accepted table and store are too
pub record Concluded (filling : Bool) (room size : ℕ) (t : List ℤ) (s : List ℕ) (l : Lines) (r : Rows) : Type 0 where
  pub answer : r ≡ (lines_outcome filling room size l).answer
  pub long : length t ≡ room
  pub table : (rows : ℕ) → r ≡ Read rows → t ≡ (lines_outcome filling room size l).table
  pub store : (rows : ℕ) → r ≡ Read rows → s ≡ (lines_outcome filling room size l).store
