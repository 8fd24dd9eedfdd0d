-- What the steps of placing the nodes of a list ask of each other and promise each other. While they are placed, a row's work item is its node's slot, 0 where it has
-- none yet. Assumes nothing.
use Rattle.std.specs.Prelude.{◌≡◌, Bool, false, List, ℕ, suc, ◌≤◌, ◌<◌, min, ℤ, length, get_or, take}
use Rattle.backoff.specs.Limits.{slot_limit}
use Rattle.std.specs.declared.result.Result.{Result}
use Rattle.std.specs.declared.result.Result.TheVariants.{Ok, Err}
use Rattle.backoff.specs.declared.Reason.{Reason}
use Rattle.backoff.specs.declared.Reason.TheVariants.{NoRoom}
use Rattle.rows.specs.Table.{rows_of, order_of, words}
use Rattle.list.specs.ListModel.{continued_in}
use Rattle.placing.specs.Placing.{Placed, place_all, unplaced}
use Rattle.free_slots.specs.Chain.{Linked, LinksRun}
use Rattle.row_nodes.specs.ListTrie.{nodes_of}

-- each row's mark is its f
pub record Flags (t : List ℤ) (marks : List Bool) : Type 0 where
  pub each : length marks ≡ rows_of t
  pub mark : (j : ℕ) → j < rows_of t → get_or marks j false ≡ continued_in t (words t j)

-- the list's first k nodes placed
abbrev pub placed_nodes : List ℤ → ℕ → Placed
placed_nodes t k = place_all (order_of t) (nodes_of t) (take k (nodes_of t)) (unplaced (order_of t))

-- what the slices of N slots hold while P is placed: BASE and CHECK with links. "At each placement the links are proved to run through exactly the free slots, upwards."
pub record Filled (t : List ℤ) (N : ℕ) (P : Placed) (base check : List ℤ) (items : List ℕ) : Type 0 where
  pub size : (2 ≤ N) × (N ≤ slot_limit)
  pub room : P.top ≤ N
  pub linked : Linked N P.base P.check base check
  pub links : LinksRun N P.check base check
  pub each : length items ≡ rows_of t
  pub item : (j : ℕ) → j < rows_of t → get_or items j 0 ≡ P.slot (words t j)

-- P is tried: the answer r is its top, or both are above N, and where P has room, the slices hold it
pub record Tried (t : List ℤ) (N : ℕ) (P : Placed) (r : ℕ) (base check : List ℤ) (items : List ℕ) : Type 0 where
  pub answer : min r (suc N) ≡ min P.top (suc N)
  pub filled : r ≤ N → Filled t N P base check items

-- the same of a top that is answered only where there is room, and of 10 where there is none
abbrev pub TriedTop : List ℤ → ℕ → Placed → Result ℕ Reason → List ℤ → List ℤ → List ℕ → Type 0
TriedTop t N P (Ok r) base check items = (r ≤ N) × Tried t N P r base check items
TriedTop t N P (Err reason) base check items = (reason ≡ NoRoom) × (N < P.top)
