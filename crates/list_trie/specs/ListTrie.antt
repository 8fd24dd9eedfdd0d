-- A list placed by the placing rule, and the slots of its rows. Rows are counted from 0 here. Assumes nothing.
use Rattle.std.specs.Prelude.{List, [], ◌∷◌, ℕ, zero, suc, ℤ}
use Rattle.rows.specs.Table.{rows_of, order_of, words}
use Rattle.placing.specs.Placing.{Placed, placing}
use Rattle.row_nodes.specs.ListTrie.{nodes_of}

-- the list placed by the placing rule, in room without an upper end
unfoldable pub placed_list : List ℤ → Placed
placed_list t = placing (order_of t) (nodes_of t)

-- the slots of the nodes of the k rows from row i on
unfoldable pub slots_from : List ℤ → ℕ → ℕ → List ℕ
slots_from t i zero = []
slots_from t i (suc k) = (placed_list t).slot (words t i) ∷ slots_from t (suc i) k

unfoldable pub row_slots : List ℤ → List ℕ
row_slots t = slots_from t 0 (rows_of t)
