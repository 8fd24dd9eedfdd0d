-- What the steps of filling leave. Only contracts of inner functions cite these. Assumes nothing.
use Rattle.std.specs.declared.result.Result.{Result}
use Rattle.std.specs.declared.result.Result.TheVariants.{Ok, Err}
use Rattle.std.specs.Prelude.{◌≡◌, Bool, true, List, ℕ, length, ℤ}
use Rattle.backoff.specs.declared.Refusal.{Refusal}
use Rattle.backoff.specs.Refusal.{reason_number, Accepted, Refused}
use Rattle.filled_list.specs.Filled.{filled_rows}
use Rattle.row_ends.specs.Steps.{NoneNeeding}
use Rattle.filling.specs.Fill.{fill_verdict}

-- the number of rows of the filled list, and whether all of them have a p in range
pub record Counts (t : List ℤ) (rows : ℕ) (fits : Bool) : Type 0 where
  pub rows_are : rows ≡ length (filled_rows t)
  pub none : fits ≡ true → NoneNeeding t

-- what the checks of filling t into a table of so many numbers return: the number of rows, or the refusal
abbrev pub Checks : List ℤ → ℕ → Result ℕ (Refusal ℕ) → Type 0
Checks t size (Ok rows) = (fill_verdict t size ≡ Accepted) × (rows ≡ length (filled_rows t))
Checks t size (Err refusal) = fill_verdict t size ≡ Refused (reason_number refusal.reason) refusal.place
