-- What a reading of an ARPA text answers. Assumes nothing.
use Rattle.std.specs.Prelude.{ℕ}
use Rattle.std.specs.declared.result.Result.{Result}
use Rattle.std.specs.declared.result.Result.TheVariants.{Ok, Err}
use Rattle.backoff.specs.Refusal.{reason_number}
use Rattle.backoff.specs.declared.Refusal.{Refusal}

-- the number of rows, or a refusal's number with its line or row
pub data Rows : Type 0 where
  Read : ℕ → Rows
  Refused : ℕ → ℕ → Rows

-- what the code's answer says
abbrev pub rows_in : Result ℕ (Refusal ℕ) → Rows
rows_in (Ok rows) = Read rows
rows_in (Err refusal) = Refused (reason_number refusal.reason) refusal.place
