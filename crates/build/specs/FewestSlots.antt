-- What an accepted build says of the builds of the same list into other numbers of slots. Assumes nothing.
use Rattle.std.specs.Prelude.{◌≡◌, true, List, ◌++◌, ℕ, ◌-◌, ◌≤◌, ◌<◌, length, take, replicate, ℤ, pos}
use Rattle.backoff.specs.Refusal.{no_room}
use Rattle.backoff.specs.Run.{written}
use Rattle.backoff.specs.Refusal.{Accepted, Refused}
use Rattle.rows.specs.Table.{rows_of}
use Rattle.child_slots.specs.Children.{free_check}
use Rattle.double_array.specs.DoubleArray.{sizes_ok}
use Rattle.placing.specs.Placing.{used_slots}
use Rattle.placed_list.specs.Build.{Built, IsBuilt}
use Rattle.build.specs.Build.{build_outcome}

module _ (built : Built) where
  -- the slots of the array cut behind its last slot that is not free
  abbrev pub fewest : ℕ
  fewest = used_slots built.check

  abbrev pub cut_base : List ℤ
  cut_base = take fewest built.base

  abbrev pub cut_check : List ℤ
  cut_check = take fewest built.check

-- slices that 2 lets pass
pub record Lent (table base check : List ℤ) (work : List ℕ) : Type 0 where
  pub sizes : sizes_ok base check ≡ true
  pub items : rows_of table ≤ length work

module _ (table : List ℤ) (built : Built) where
  -- a build of the table with these lent slices is accepted and leaves these arrays, and in work the slots that `built` left there
  abbrev pub Leaves : List ℤ → List ℤ → List ℕ → List ℤ → List ℤ → Type 0
  Leaves base check work base' check' = IsBuilt (build_outcome table base check work) Accepted base' check' (written (take (rows_of table) built.work) work)

  -- `built` is what an accepted build of the table left.
  pub record FewestSlots : Type 0 where
    -- the cut has the 2 slots that an array must have, and no more than `built`
    pub low : 2 ≤ fewest built
    pub high : fewest built ≤ length built.base
    -- into fewer slots than the cut has: 10
    pub fewer : (base check : List ℤ) (work : List ℕ) → Lent table base check work → length base < fewest built → (build_outcome table base check work).answer ≡ Refused no_room 0
    -- into just as many: the cut
    pub cut : (base check : List ℤ) (work : List ℕ) → Lent table base check work → length base ≡ fewest built → Leaves base check work (cut_base built) (cut_check built)
    -- into as many or more: the cut, and free slots behind it
    pub enough : (base check : List ℤ) (work : List ℕ) → Lent table base check work → fewest built ≤ length base
        → Leaves base check work (cut_base built ++ replicate (length base - fewest built) (pos 0)) (cut_check built ++ replicate (length base - fewest built) free_check)
    -- into as many as `built` has or more: its arrays, and free slots behind them
    pub more : (base check : List ℤ) (work : List ℕ) → Lent table base check work → length built.base ≤ length base
        → Leaves base check work (built.base ++ replicate (length base - length built.base) (pos 0)) (built.check ++ replicate (length base - length built.base) free_check)
