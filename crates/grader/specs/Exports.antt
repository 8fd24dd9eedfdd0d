-- The answers of the calls as they cross to C, each with the slices at exit. Assumes nothing.
use Rattle.std.specs.Prelude.{◌≡◌, List, ℕ, ℤ}
use Rattle.backoff.specs.Refusal.{number_of, place_of}
use Rattle.placed_list.specs.Build.{Built}
use Rattle.filling.specs.Fill.{Filled}
use Rattle.unload.specs.Unload.{Unloaded}
use Rattle.arpa_reading.specs.Outcome as arpa
use Rattle.c_answers.specs.Answers.{StatusIs, RowCountIs}
use Rattle.c_answers.specs.declared.Status.{Status}
use Rattle.c_answers.specs.declared.RowCount.{RowCount}

-- a build's answer, and the three slices at exit
pub record BuiltIs (o : Built) (r : Status) (base check : List ℤ) (work : List ℕ) : Type 0 where
  pub status : StatusIs o.answer r
  pub base-is : base ≡ o.base
  pub check-is : check ≡ o.check
  pub work-is : work ≡ o.work

-- an unload's answer, and the two slices at exit
pub record UnloadedIs (o : Unloaded) (r : Status) (table : List ℤ) (work : List ℕ) : Type 0 where
  pub status : StatusIs o.answer r
  pub table_is : table ≡ o.table
  pub work-is : work ≡ o.work

-- a reading's answer, and the table and store at exit
pub record ReadIs (o : arpa.Outcome) (r : RowCount) (table : List ℤ) (store : List ℕ) : Type 0 where
  pub count : RowCountIs o.answer r
  pub table_is : table ≡ o.table
  pub store_is : store ≡ o.store

-- a filling's answer, and the second table at exit
pub record FilledIs (o : Filled) (r : RowCount) (table : List ℤ) : Type 0 where
  pub number : r.number ≡ number_of o.answer
  pub rows : r.rows ≡ o.rows
  pub place : r.place ≡ place_of o.answer
  pub table_is : table ≡ o.table
