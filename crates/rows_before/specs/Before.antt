-- What a search for a row's shorter rows asks for, and what the checks of a row come to. Only contracts of inner functions cite this. Assumes nothing.
use Rattle.std.specs.declared.result.Result.{Result}
use Rattle.std.specs.declared.result.Result.TheVariants.{Ok, Err}
use Rattle.std.specs.Prelude.{◌≡◌, List, ℕ, ◌+◌, ◌*◌, ◌≤◌, length, ℤ}
use Rattle.backoff.specs.declared.Reason.{Reason}
use Rattle.backoff.specs.Refusal.{reason_number}
use Rattle.backoff.specs.Limits.{order_limit}
use Rattle.rows.specs.Table.{length_of}
use Rattle.rows.specs.Good.{GoodRow, Good}
use Rattle.rows_before.specs.declared.Checked.{Checked}

-- row i has m words and passes checks 3 to 6, and the rows before it are a list
abbrev pub RowOf : List ℤ → ℕ → ℕ → Type 0
RowOf t i m = (8 * i + 8 ≤ length t) × Good t i × GoodRow t i × (m ≡ length_of t i) × (m ≤ order_limit)

-- the fault as a number, 0 where there is none
abbrev pub fault_in : Result Checked Reason → ℕ
fault_in (Ok _) = 0
fault_in (Err reason) = reason_number reason
