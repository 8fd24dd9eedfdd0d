-- The last words of a row as a row of the filled list, and the search for the first row that needs one whose p is out of range. Only contracts of inner functions cite these. Assumes nothing.
use Rattle.std.specs.declared.option.Option.{Option}
use Rattle.std.specs.declared.option.Option.TheVariants.{Some, None}
use Rattle.std.specs.Prelude.{◌≡◌, true, List, ℕ, ◌≤◌, ◌<◌, ℤ}
use Rattle.backoff.specs.Refusal.{row_probability}
use Rattle.backoff.specs.Refusal.{Accepted}
use Rattle.rows.specs.Table.{rows_of, length_of}
use Rattle.row_search.specs.Search.{find_in}
use Rattle.list.specs.Check.{verdict_for}
use Rattle.filled_list.specs.Filled.{filled_probability, filled_backoff}
use Rattle.filled_list.specs.Next.{last_words}
use Rattle.row_ends.specs.Needed.{needed_fault}

-- the last m words of row i, which has k words, of a list that is to be filled; they are no row if row i has more words
pub record IsEnd (t : List ℤ) (i k m : ℕ) : Type 0 where
  pub checked : verdict_for true t ≡ Accepted
  pub within : i < rows_of t
  pub size : k ≡ length_of t i
  pub some : 0 < m
  pub long : m ≤ k
  pub absent : m < k → find_in t (last_words t i m) ≡ None

-- p and b of the filled list's row of these words
unfoldable pub end_probability : List ℤ → ℕ → ℕ → ℤ
end_probability t i m = filled_probability t (last_words t i m) (find_in t (last_words t i m))

unfoldable pub end_backoff : List ℤ → ℕ → ℕ → ℤ
end_backoff t i m = filled_backoff t (find_in t (last_words t i m))

-- no row needs a row whose p is out of range
abbrev pub NoneNeeding : List ℤ → Type 0
NoneNeeding t = (i : ℕ) → i < rows_of t → needed_fault t i ≡ 0

-- no row before r needs a row whose p is out of range, and row r does, if it is a row
pub record FirstNeeding (t : List ℤ) (r : ℕ) : Type 0 where
  pub within : r ≤ rows_of t
  pub none : (j : ℕ) → j < r → needed_fault t j ≡ 0
  pub one : r < rows_of t → needed_fault t r ≡ row_probability

-- the same of what a search returned: a row, or none where it passed all of them
abbrev pub NeedingIs : List ℤ → Option ℕ → Type 0
NeedingIs t (Some i) = (i < rows_of t) × FirstNeeding t i
NeedingIs t None = FirstNeeding t (rows_of t)
