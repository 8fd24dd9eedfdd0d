-- What the two walks over the rows of the filled list keep. Assumes nothing.
use Rattle.std.specs.declared.option.Option.{Option}
use mathlib.Core.Path.{◌≡◌}
use mathlib.Core.Bool.{Bool, true}
use mathlib.Core.List.{List}
use Prim.Native.Nat.{ℕ, ◌<◌}
use lib.IntN.{ℤ}
use Rattle.backoff.specs.Refusal.{Accepted}
use Rattle.rows.specs.Table.{words}
use Rattle.list.specs.Check.{verdict_for}
use Rattle.filled_list.specs.Filled.{filled_table}
use Rattle.filled_list.specs.declared.NextEnd.{NextEnd}
use Rattle.filled_list.specs.Found.{ComesNextOf}
use Rattle.row_ends.specs.Needed.{addable}
use Rattle.filling.proofs.Written.{Writing}

-- as many rows as were counted come before the next one
pub record Counting (t : List ℤ) (n count : ℕ) (end : Option NextEnd) (fits : Bool) : Type 0 where
  pub checked : verdict_for true t ≡ Accepted
  pub next : ComesNextOf t n count end
  pub in_range : fits ≡ true → (j : ℕ) → j < count → addable t (words (filled_table t) j) ≡ true

-- the rows ahead of the next one are written
pub record Under (t second : List ℤ) (n : ℕ) (end : Option NextEnd) (start : ℕ) (filled : List ℤ) : Type 0 where
  pub checked : verdict_for true t ≡ Accepted
  pub place : ℕ
  pub next : ComesNextOf t n place end
  pub writing : Writing t checked second place start filled
