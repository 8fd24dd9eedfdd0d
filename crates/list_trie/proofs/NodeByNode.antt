-- The nodes placed one by one: where one has no room the list has none, and after the last the list is placed. Assumes nothing.
use mathlib.Core.Path.{◌≡◌, ap}
use mathlib.Core.List.{List}
use Prim.Native.Nat.{ℕ, suc, ◌<◌, min}
use native.Mathlib.Omega.{arith}
use lib.IntN.{ℤ}
use Rattle.rows.specs.Table.{rows_of, order_of}
use Rattle.placing.proofs.NodeByNode.{placed_first_all, placed_first_over}
use Rattle.row_nodes.specs.ListTrie.{nodes_of}
use Rattle.row_nodes.specs.Steps.{placed_nodes, Filled, Tried}
use Rattle.row_nodes.proofs.ListTrie.{length-nodes_of}
use Rattle.list_trie.specs.ListTrie.{placed_list}

pub over_room : (t : List ℤ) (N n : ℕ) → N < (placed_nodes t n).top → N < (placed_list t).top
unfolding placed_list
over_room t N n h = omega (arith, placed_first_over (order_of t) (nodes_of t) n N h)

module _ {t : List ℤ} {N : ℕ} (n : ℕ) {B C : List ℤ} {W : List ℕ} where
  pub all_placed : {r : ℕ} → n ≡ suc (rows_of t) → r ≡ (placed_nodes t n).top → Filled t N (placed_nodes t n) B C W → Tried t N (placed_list t) r B C W
  unfolding placed_list
  all_placed e o F =
      let whole : placed_nodes t n ≡ placed_list t = rw (e, ← length-nodes_of t) (placed_first_all (order_of t) (nodes_of t)) in
      rw (← whole) (record { answer = ap (λ (x : ℕ). min x (suc N)) o; filled = λ _. F })
