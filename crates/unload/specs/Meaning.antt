-- What the answers of unload mean, whatever the lent arrays are. Assumes nothing.
use Rattle.std.specs.declared.option.Option.TheVariants.{Some}
use Rattle.std.specs.Prelude.{◌≡◌, ◌⊎◌, true, false, List, [], ◌∷◌, ℕ, ◌*◌, ◌≤◌, ◌<◌, length, get_or, take, ℤ}
use Rattle.backoff.specs.Refusal.{array_head, broken_node, short_slice}
use Rattle.backoff.specs.FirstMet.{Line, ◌when◌, FirstMet}
use Rattle.backoff.specs.Run.{Run}
use Rattle.backoff.specs.Store.{is_broken, store_of, model_in, run_outcome, start_outcome}
use Rattle.backoff.specs.Refusal.{Accepted}
use Rattle.rows.specs.Table.{rows_of, order_of, words}
use Rattle.list.specs.Check.{verdict}
use Rattle.list.specs.ListModel.{model_of}
use Rattle.double_array.specs.DoubleArray.{is_array, order_in, store_in, opened}
use Rattle.lookup.specs.Lookup.{lookup_in, lookup_outcome}
use Rattle.array_nodes.specs.Nodes.{walk_to}
use Rattle.node_list.specs.Listed.{rows_in}

-- The array holds the list t: t has the array's order n and number of rows, and of at most n words the array has what t has, on sound nodes. Of nodes
-- of more than n words, which no lookup, start or run comes to, nothing is said.
pub record Holds (base check t : List ℤ) : Type 0 where
  pub array : is_array base check ≡ true
  pub list : verdict t ≡ Accepted
  pub rows : rows_of t ≡ rows_in base
  pub order : order_of t ≡ order_in check
  pub find : (l : List ℕ) → length l ≤ order_in check → (model_in (store_in base check)).find l ≡ (model_of t).find l
  pub sound : (l : List ℕ) → length l ≤ order_in check → is_broken ((store_in base check).look l) ≡ false

-- Over the array, every lookup, start and run, whatever the words and the state, is what the list says.
pub record Says (base check t : List ℤ) : Type 0 where
  pub lookups : (ws : List ℕ) → lookup_outcome base check ws ≡ lookup_in (Some (store_of (model_of t))) ws
  pub starts : (l : List ℤ) → start_outcome (opened base check) l ≡ start_outcome (Some (store_of (model_of t))) l
  pub runs : (l : List ℤ) (r : Run) → run_outcome (opened base check) l r ≡ run_outcome (Some (store_of (model_of t))) l r

-- "unload 11, 15, 12": 12 where the array holds no list, so also "if the sequences of up to n words found by walking are not an accepted list of order n and
-- BASE[1] rows, or some f is wrong"
abbrev pub unload_refusals : List ℤ → List ℤ → List ℤ → List ℕ → List Line
unload_refusals base check table work =
    array_head when (is_array base check ≡ false)
    ∷ short_slice when ((length table < 8 * rows_in base) ⊎ (length work < rows_in base))
    ∷ broken_node when ((t : List ℤ) → Holds base check t → ⊥)
    ∷ []

-- "the rows' part of table"
abbrev pub rows_part : List ℤ → List ℤ → List ℤ
rows_part base table = take (8 * rows_in base) table

-- The number and the place that were returned, and table and work as they are left.
pub record UnloadMeans (base check table : List ℤ) (work : List ℕ) (number place : ℕ) (table' : List ℤ) (work' : List ℕ) : Type 0 where
  pub verdict : FirstMet (unload_refusals base check table work) number place
  -- accepted: the rows' part of table is the one list that the array holds, and work has the slots of its nodes
  pub holds : number ≡ 0 → Holds base check (rows_part base table')
  pub only : number ≡ 0 → (t : List ℤ) → Holds base check t → rows_part base table' ≡ t
  pub slots : number ≡ 0 → (i : ℕ) → i < rows_in base → walk_to base check (words (rows_part base table') i) ≡ Some (get_or work' i 0)
