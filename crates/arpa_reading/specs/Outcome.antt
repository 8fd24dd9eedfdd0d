-- What the lines of an ARPA text come to: the answer, and the lent table and store. Assumes nothing.
use Rattle.std.specs.Prelude.{Bool, List, ℕ, ℤ, pos, length, replicate}
use Rattle.backoff.specs.NineNumbers.{padded}
use Rattle.backoff.specs.Refusal.{Verdict}
use Rattle.backoff.specs.Refusal.{Accepted, Refused}
use Rattle.list.specs.Check.{verdict_for}
use Rattle.row_order.specs.RowOrder.{joined, list_order}
use Rattle.arpa_words.specs.Words.{store_with}
use Rattle.arpa_sections.specs.Sections.{Reading}
use Rattle.arpa_lines.specs.Reading.{Lines, done, stopped}
use Rattle.arpa_reading.specs.Rows.{Rows, Read, Refused as NotRead}

-- an answer's number, place and row count: 0 and 0 where nothing is refused, 0 rows where something is
abbrev pub read_number : Rows → ℕ
read_number (Read rows) = 0
read_number (NotRead number place) = number

abbrev pub read_place : Rows → ℕ
read_place (Read rows) = 0
read_place (NotRead number place) = place

abbrev pub row_count : Rows → ℕ
row_count (Read rows) = rows
row_count (NotRead number place) = 0

pub record Outcome : Type 0 where
  pub answer : Rows
  pub table : List ℤ
  pub store : List ℕ

-- "Any refusal leaves table and store 0."
unfoldable pub refused_outcome : ℕ → ℕ → ℕ → ℕ → Outcome
refused_outcome room size number place = record { answer = NotRead number place; table = replicate room (pos 0); store = replicate size 0 }

-- "ARPA rows come in any order; the result is the same rows in list order, those of equal words as they came."
unfoldable pub ordered : Reading → List ℤ
ordered r = list_order (joined r.rows)

-- "The list checks then apply to it, and the row count is returned."
abbrev pub judged : ℕ → ℕ → Reading → Verdict → Outcome
judged room size r Accepted = record { answer = Read (length r.rows); table = padded room (ordered r); store = store_with size r.texts }
judged room size r (Refused number place) = refused_outcome room size number place

-- where `filling` says whether the list is to be filled: "The ARPA reader, told that filling follows, does so too", it keeps 8 for the two cases of request T-07
abbrev pub lines_outcome : Bool → ℕ → ℕ → Lines → Outcome
lines_outcome filling room size (done r) = judged room size r (verdict_for filling (ordered r))
lines_outcome filling room size (stopped number place) = refused_outcome room size number place
