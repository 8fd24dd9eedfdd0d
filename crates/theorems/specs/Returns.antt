-- What an unload over the arrays of a build must give back. Assumes nothing.
use Rattle.std.specs.Prelude.{◌≡◌, List, ℕ, length, take, drop, ℤ}
use Rattle.backoff.specs.Refusal.{Accepted}
use Rattle.rows.specs.Table.{rows_of}
use Rattle.placed_list.specs.Build.{Built}
use Rattle.build.specs.Build.{build_outcome}
use Rattle.unload.specs.Unload.{Unloaded, unload_outcome}

-- The table was built with the lent slices base, check and work; unload is lent the two arrays that the build left, and table' and work'.
module _ (table base check : List ℤ) (work : List ℕ) (table' : List ℤ) (work' : List ℕ) where
  abbrev pub built : Built
  built = build_outcome table base check work

  abbrev pub unloaded : Unloaded
  unloaded = unload_outcome built.base built.check table' work'

  pub record ReturnsList : Type 0 where
    pub accepted : unloaded.answer ≡ Accepted
    -- the list, number for number, and the rest untouched
    pub rows : take (length table) unloaded.table ≡ table
    pub past-rows : drop (length table) unloaded.table ≡ drop (length table) table'
    -- the slots that the build left in work, and the rest untouched
    pub slots : take (rows_of table) unloaded.work ≡ take (rows_of table) built.work
    pub past-slots : drop (rows_of table) unloaded.work ≡ drop (rows_of table) work'
