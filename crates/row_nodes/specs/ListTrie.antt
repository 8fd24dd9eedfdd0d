-- The trie of a list: "Nodes are the root (slot 0) and one per row". Rows are counted from 0 here. Assumes nothing.
use Rattle.std.specs.Prelude.{List, [], ◌∷◌, ℕ, zero, suc, ◌≤◌, ◌<◌, ℤ, pos, nat_abs}
use Rattle.rows.specs.Table.{rows_of, probability_at, backoff_at, length_of, words}
use Rattle.list.specs.ListModel.{extended_in, continued_in}
use Rattle.markers.specs.Markers.{marker_base}
use Rattle.placing.specs.Trie.{Node}

-- row i's node: "A row's marker has CHECK = p − 1", its BASE is "4 × b + 2 × e + f", and p is not positive. A row of n words, which has no marker, has b = e = f = 0.
unfoldable pub node_of : List ℤ → ℕ → Node
node_of t i = record { words = words t i; cost = nat_abs (probability_at t i); load = marker_base (backoff_at t i) (extended_in t (words t i)) (continued_in t (words t i)) }

-- "CHECK[1] is −1 and BASE[1] is the number of rows": the root's marker
unfoldable pub root_of : List ℤ → Node
root_of t = record { words = []; cost = 0; load = pos (rows_of t) }

-- the nodes of the k rows from row i on
unfoldable pub nodes_from : List ℤ → ℕ → ℕ → List Node
nodes_from t i zero = []
nodes_from t i (suc k) = node_of t i ∷ nodes_from t (suc i) k

unfoldable pub nodes_of : List ℤ → List Node
nodes_of t = root_of t ∷ nodes_from t 0 (rows_of t)

-- rows 0 to k − 1 have fewer than m words, the others have m or more
pub record RowsBelow (t : List ℤ) (m k : ℕ) : Type 0 where
  pub within : k ≤ rows_of t
  pub fewer : (i : ℕ) → i < k → length_of t i < m
  pub more : (i : ℕ) → k ≤ i → i < rows_of t → m ≤ length_of t i
