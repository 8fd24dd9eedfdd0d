-- How the code holds a reading in the lent table and store. Only contracts of inner functions cite what is here. Assumes nothing.
use Rattle.std.specs.declared.result.Result.{Result}
use Rattle.std.specs.declared.result.Result.TheVariants.{Ok, Err}
use Rattle.std.specs.Prelude.{◌≡◌, ◌⊎◌, ℕ, suc, ◌+◌, ◌*◌, ◌<◌, ◌≤◌, min, max, ℤ, pos, length, get_or, take, set, replicate}
use mathlib.Core.List.{List, [], Memᴰ}
use Rattle.backoff.specs.Limits.{order_limit, row_limit}
use Rattle.backoff.specs.Refusal.{reason_number}
use Rattle.backoff.specs.declared.Reason.{Reason}
use Rattle.rows.specs.Table.{field}
use Rattle.row_order.specs.RowOrder.{joined}
use Rattle.word_index.specs.Index.{link_limit, Indexed}
use Rattle.arpa_words.specs.Words.{no_texts, store_with}
use Rattle.arpa_words.specs.Held.{TextsSound}
use Rattle.arpa_sections.specs.Sections.{Reading, Step, goes, refused_by, row_of}
use Rattle.arpa_sections.specs.declared.Stage.{Stage}
use Rattle.arpa_sections.specs.declared.Stage.TheVariants.{Start, Counts, Section, Ended}
use Rattle.arpa_sections.specs.declared.Progress.{Progress}

-- one chain for each one-word line that is announced, as far as the table has rows, and one at least
unfoldable pub buckets_for : ℕ → ℕ → ℕ
buckets_for announced rows = max 1 (min announced rows)

-- ---- rows in the table

-- The table has the rows, and 0 behind them; of its first `taken` rows the numbers 2 and 3 are the index's.
pub record TableHeld (t : List ℤ) (rows : List (List ℤ)) (taken : ℕ) : Type 0 where
  pub same : (i j : ℕ) → j < 8 → (taken ≤ i) ⊎ (j < 2) ⊎ (4 ≤ j) → field t i j ≡ field (joined rows) i j

-- numbers 2 and 3 of row i are free for the index: the row has one word
abbrev pub FreeRow : List (List ℤ) → ℕ → Type 0
FreeRow rows i = (field (joined rows) i 2 ≡ pos 0) × (field (joined rows) i 3 ≡ pos 0)

-- a row of one to five words, each of them met
pub record RowSound (words : ℕ) (row : List ℤ) : Type 0 where
  pub numbers : List ℕ
  pub p : ℤ
  pub b : ℤ
  pub is : row ≡ row_of numbers p b
  pub some : 1 ≤ length numbers
  pub few : length numbers ≤ order_limit
  pub met : (k : ℕ) → Memᴰ k numbers → (1 ≤ k) × (k < words)

-- ---- the progress

-- the one-word lines announced
abbrev pub ones_of : Reading → ℕ
ones_of a = get_or a.announced 0 0

-- in the one-word section: every row is one of its lines, and the index has its place from the start
pub record FirstHeld (t : List ℤ) (s : List ℕ) (p : Progress) (a : Reading) : Type 0 where
  pub lines : p.rows ≡ p.lines
  pub words : p.words ≤ p.rows + 4
  pub some : 1 ≤ p.buckets
  pub untouched : p.rows ≡ 0 → t ≡ replicate (length t) (pos 0)
  -- the index holds records 0 to 3 too, so that it is there where the store has them
  pub index : 8 ≤ length t → 256 ≤ length s → p.words ≤ link_limit → Indexed t s p.buckets p.words
  pub buckets : p.buckets ≤ max 1 (ones_of a)
  pub table : p.rows ≤ row_limit → TableHeld t a.rows (max p.rows p.buckets)
  pub free : (i : ℕ) → FreeRow a.rows i

-- behind it: its rows are as many as announced, and only they hold the index
pub record LaterHeld (t : List ℤ) (s : List ℕ) (p : Progress) (a : Reading) : Type 0 where
  pub ones : ones_of a ≤ p.rows
  pub words : p.words ≤ ones_of a + 4
  pub index : 4 < p.words → p.words ≤ link_limit → Indexed t s p.buckets p.words
  pub buckets : 4 < p.words → p.buckets ≤ ones_of a
  pub table : p.rows ≤ row_limit → TableHeld t a.rows (ones_of a)
  pub free : (i : ℕ) → i < ones_of a → FreeRow a.rows i

-- before it: nothing is written
pub record NoneHeld (t : List ℤ) (a : Reading) : Type 0 where
  pub rows : a.rows ≡ []
  pub texts : a.texts ≡ no_texts
  pub table : t ≡ replicate (length t) (pos 0)

abbrev pub StageHeld : Stage → List ℤ → List ℕ → Progress → Reading → Type 0
StageHeld Start t s p a = NoneHeld t a
StageHeld Counts t s p a = NoneHeld t a
StageHeld (Section m) t s p a = (1 ≤ m) × (m ≤ p.order) × (m ≡ 1 → FirstHeld t s p a) × (2 ≤ m → LaterHeld t s p a)
StageHeld Ended t s p a = (1 ≤ p.order) × LaterHeld t s p a

-- the progress p with the table t of `room` numbers and the store s of `size` bytes holds the reading a
pub record Held (room size : ℕ) (t : List ℤ) (s : List ℕ) (p : Progress) (a : Reading) : Type 0 where
  pub table-long : length t ≡ room
  pub store_long : length s ≡ size
  pub stage : p.stage ≡ a.stage
  pub order : p.order ≤ order_limit
  pub counts-long : length p.counts ≡ order_limit
  pub announced : take p.order p.counts ≡ a.announced
  pub lines : p.lines ≡ a.lines
  pub rows : p.rows ≡ length a.rows
  pub row_room : 8 * p.rows ≤ room
  pub lines_rows : p.lines ≤ p.rows
  pub words : p.words ≡ suc (length a.texts)
  pub word_room : 4 < p.words → 64 * p.words ≤ size
  pub reserved-room : (k : ℕ) → k < 3 → (get_or a.texts k [] ≡ [] → ⊥) → 64 * (k + 2) ≤ size
  pub texts : TextsSound a.texts
  pub store : s ≡ store_with size a.texts
  pub sound : (row : List ℤ) → Memᴰ row a.rows → RowSound p.words row
  pub at_stage : StageHeld a.stage t s p a

-- what a line came to
abbrev pub StepHeld : ℕ → ℕ → List ℤ → List ℕ → Step → Result Progress Reason → Type 0
StepHeld room size t s (goes a) (Ok p) = Held room size t s p a
StepHeld room size t s (goes a) (Err reason) = ⊥
StepHeld room size t s (refused_by number) (Ok p) = ⊥
StepHeld room size t s (refused_by number) (Err reason) = (reason_number reason ≡ number) × (length t ≡ room) × (length s ≡ size)

-- the code's own steps
abbrev pub entered : Progress → Stage → Progress
entered p stage = record { stage = stage; counts = p.counts; order = p.order; lines = 0; rows = p.rows; words = p.words; buckets = p.buckets }

abbrev pub announcing : Progress → ℕ → Progress
announcing p count = record { stage = p.stage; counts = set p.counts p.order count; order = p.order + 1; lines = 0; rows = p.rows; words = p.words; buckets = p.buckets }
