-- A build takes two slots for the root and for each row, but one for a row of n words. Assumes nothing.
use mathlib.Core.Path.{◌≡◌, refl, ap}
use mathlib.Core.Bool.{Bool, true, false, cond}
use mathlib.Core.List.{List}
use Prim.Native.Nat.{ℕ, zero, suc, ◌+◌, ◌*◌, ◌≤◌}
use native.Mathlib.Omega.{arith}
use borrow.Author.Tests.{ne_eqb}
use lib.Dec.{eqb}
use lib.IntN.{ℤ}
use lib.ListN.{length}
use Rattle.backoff.specs.Refusal.{Accepted}
use Rattle.rows.specs.Table.{rows_of, length_of, order_of}
use Rattle.rows.proofs.Table.{row_in, words-length}
use Rattle.list.specs.Check.{verdict}
use Rattle.placing.specs.Trie.{longest_nodes}
use Rattle.placing.specs.Placing.{taken_slots}
use Rattle.placing.proofs.TakenSlots.{taken-slots}
use Rattle.row_nodes.specs.ListTrie.{node_of, root_of, nodes_from, nodes_of}
use Rattle.row_nodes.proofs.ListTrie.{length-nodes_of, nodes_ready}
use Rattle.list_trie.specs.ListTrie.{placed_list}
use Rattle.build.specs.Build.{build_outcome}
use Rattle.build.specs.TakenSlots.{longest_from}
use Rattle.build.proofs.Built.{build_accepted}

longest-rows : (t : List ℤ) (i k : ℕ) → i + k ≤ rows_of t → longest_nodes (order_of t) (nodes_from t i k) ≡ longest_from t i k
unfolding longest_nodes nodes_from node_of longest_from
longest-rows t i zero h = refl
longest-rows t i (suc k) h = rw (words-length t i (row_in t i (omega arith))) (go (eqb (length_of t i) (order_of t)) (longest-rows t (suc i) k (omega arith)))
  where
    go : (b : Bool) → longest_nodes (order_of t) (nodes_from t (suc i) k) ≡ longest_from t (suc i) k
        → cond b (suc (longest_nodes (order_of t) (nodes_from t (suc i) k))) (longest_nodes (order_of t) (nodes_from t (suc i) k)) ≡ cond b (suc (longest_from t (suc i) k)) (longest_from t (suc i) k)
    go true q = ap suc q
    go false q = q

longest-nodes : (t : List ℤ) → verdict t ≡ Accepted → longest_nodes (order_of t) (nodes_of t) ≡ longest_from t 0 (rows_of t)
unfolding longest_nodes nodes_of root_of
longest-nodes t a = rw (ne_eqb 0 (order_of t) (λ e. absurd (omega (arith, (nodes_ready t a).some_words)))) (longest-rows t 0 (rows_of t) (omega arith))

-- Of the CHECK slice that an accepted build left.
pub slots_used : (t B C : List ℤ) (W : List ℕ) → (build_outcome t B C W).answer ≡ Accepted → taken_slots (build_outcome t B C W).check + longest_from t 0 (rows_of t) ≡ 2 * suc (rows_of t)
unfolding placed_list
slots_used t B C W accepted =
    let k = build_accepted t B C W accepted in
    omega (arith, ap taken_slots k.check-slots, taken-slots (nodes_ready t k.accepted) (length B) k.room, longest-nodes t k.accepted, length-nodes_of t)
