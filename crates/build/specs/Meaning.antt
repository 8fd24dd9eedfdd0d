-- What the answers of build mean, for every table and all lent slices. Assumes nothing.
use Rattle.std.specs.declared.option.Option.TheVariants.{Some}
use Rattle.std.specs.Prelude.{◌≡◌, false, List, ℕ, ◌≤◌, ◌<◌, length, ℤ}
use Rattle.backoff.specs.Limits.{slot_limit}
use Rattle.backoff.specs.Refusal.{table_length, array_length, no_room}
use Rattle.backoff.specs.Model.{AcceptedModel}
use Rattle.backoff.specs.Store.{model_in}
use Rattle.rows.specs.Table.{rows_of}
use Rattle.list.specs.ListModel.{model_of}
use Rattle.list.specs.Meaning.{Meets, NoneMeets, VerdictMeans}
use Rattle.double_array.specs.DoubleArray.{store_in, opened}
use Rattle.list_trie.specs.ListTrie.{placed_list}

module _ (table base check : List ℤ) (work : List ℕ) where
  -- "BASE and CHECK differ in length, N out of range, work shorter than the rows"
  pub data BadSizes : Type 0 where
    lengths_differ : (length base ≡ length check → ⊥) → BadSizes
    too_few_slots : length base < 2 → BadSizes
    too_many_slots : slot_limit < length base → BadSizes
    short-work : length work < rows_of table → BadSizes

  -- "build 1, 2, then row by row 3 to 8, then 9, 10"
  pub data BuildRefusedBy : ℕ → ℕ → Type 0 where
    bad_table : Meets false table table_length 0 → BuildRefusedBy table_length 0
    bad_sizes : (Meets false table table_length 0 → ⊥) → BadSizes → BuildRefusedBy array_length 0
    -- 3 to 9, as the check of the list answers
    bad_list : (BadSizes → ⊥) → (n p : ℕ) → (n ≡ 0 → ⊥) → VerdictMeans false table n p → BuildRefusedBy n p
    -- "the placing rule uses a slot ≥ N"
    lacks_room : (BadSizes → ⊥) → NoneMeets false table → length base < (placed_list table).top → BuildRefusedBy no_room 0

-- The list is an accepted model, the placing rule keeps below slot N, and the array holds the list, all of it and only it.
pub record HoldsModel (table : List ℤ) (N : ℕ) (base check : List ℤ) : Type 0 where
  pub accepted : AcceptedModel (model_of table)
  pub room : (placed_list table).top ≤ N
  pub opens : opened base check ≡ Some (store_in base check)
  pub model : model_in (store_in base check) ≡ model_of table

-- The number and the place that were returned, and the array as it is left.
pub record BuildMeans (table base check : List ℤ) (work : List ℕ) (number place : ℕ) (base' check' : List ℤ) : Type 0 where
  pub accepted : number ≡ 0 → HoldsModel table (length base) base' check'
  pub no_place : number ≡ 0 → place ≡ 0
  pub refused : (number ≡ 0 → ⊥) → BuildRefusedBy table base check work number place
