-- From the steps to the outcome of an accepted list: the slices before the first node, and what they hold at the end. Assumes nothing.
use mathlib.Core.Path.{◌≡◌, refl, sym, ap, ◌∙◌}
use mathlib.Core.Bool.{true, false}
use mathlib.Core.List.{List, ◌++◌, append-nil}
use Prim.Native.Nat.{ℕ, zero, suc, ◌+◌, ◌≤◌, ◌<◌}
use native.Mathlib.Omega.{arith}
use lib.Dec.{leb}
use lib.IntN.{ℤ, pos}
use lib.ListN.{length, get_or, replicate, length-replicate, get_or-replicate, drop_of_length-le}
use lib.Seq.{ext_get_or}
use borrow.Author.Tests.{le-leb, lt-leb}
use Rattle.backoff.specs.Refusal.{no_room}
use Rattle.backoff.specs.Run.{written}
use Rattle.backoff.specs.Refusal.{Accepted, Refused}
use Rattle.rows.specs.Table.{rows_of, order_of, words}
use Rattle.list.specs.Check.{verdict}
use Rattle.child_slots.specs.Children.{free_check}
use Rattle.double_array.specs.DoubleArray.{head_check, sizes_ok}
use Rattle.double_array.proofs.DoubleArray.{sizes_told}
use Rattle.placing.specs.Trie.{node_at}
use Rattle.placing.specs.Placing.{update, place_all, unplaced, slots}
use Rattle.placing.proofs.NodeByNode.{Head, placing_inv, placing-head}
use Rattle.free_slots.specs.Chain.{Unlinked}
use Rattle.free_slots.proofs.Chain.{update-kept}
use Rattle.free_slots.proofs.Following.{links-run_through_the_free_slots}
use Rattle.free_slots.proofs.Linking.{fresh_linked}
use Rattle.row_nodes.specs.ListTrie.{nodes_of}
use Rattle.row_nodes.specs.Steps.{placed_nodes, Filled, Tried}
use Rattle.row_nodes.proofs.ListTrie.{nodes_ready}
use Rattle.list_trie.specs.ListTrie.{placed_list, slots_from, row_slots}
use Rattle.placed_list.specs.Build.{filled, emptied, checked_build, IsBuilt}
use Rattle.placed_list.specs.Steps.{Wiped}

-- ---- before the first node

-- slots that are all free are linked: nothing is placed
pub filled_none : (t B₀ C₀ : List ℤ) (W₀ : List ℕ) {B C : List ℤ} {W : List ℕ} → sizes_ok B₀ C₀ ≡ true → length W₀ ≡ rows_of t → Wiped B₀ C₀ W₀ B C W → Filled t (length C₀) (placed_nodes t 0) B C W
unfolding place_all unplaced
filled_none t B₀ C₀ W₀ sizes items w =
    let z = sizes_told B₀ C₀ sizes in
    let L = fresh_linked (length C₀) (head_check (order_of t)) (omega (arith, z.low, z.same)) (omega (arith, z.high, z.same)) refl in
    rw (w.base-free, z.same, w.check-free, w.items-zero)
    (record {
      size = (omega (arith, z.low, z.same), omega (arith, z.high, z.same));
      room = omega arith;
      linked = L;
      links = links-run_through_the_free_slots L;
      each = length-replicate (length W₀) 0 ∙ items;
      item = λ j l. get_or-replicate (length W₀) j 0 0 (omega (arith, items));
    })

-- ---- the rows' slots

pub length-slots_from : (t : List ℤ) (i k : ℕ) → length (slots_from t i k) ≡ k
unfolding slots_from
length-slots_from t i zero = refl
length-slots_from t i (suc k) = ap suc (length-slots_from t (suc i) k)

pub get_or-slots_from : (t : List ℤ) (i k j : ℕ) → j < k → get_or (slots_from t i k) j 0 ≡ (placed_list t).slot (words t (i + j))
unfolding slots_from
get_or-slots_from t i zero j h = absurd (omega arith)
get_or-slots_from t i (suc k) zero h = ap (λ (x : ℕ). (placed_list t).slot (words t x)) (omega arith)
get_or-slots_from t i (suc k) (suc j) h = get_or-slots_from t (suc i) k j (omega arith) ∙ ap (λ (x : ℕ). (placed_list t).slot (words t x)) (omega arith)

pub length-row_slots : (t : List ℤ) → length (row_slots t) ≡ rows_of t
unfolding row_slots
length-row_slots t = length-slots_from t 0 (rows_of t)

filled-slots : {t : List ℤ} {N : ℕ} {B C : List ℤ} {W : List ℕ} → Filled t N (placed_list t) B C W → W ≡ row_slots t
unfolding row_slots
filled-slots {t} {W = W} F =
    ext_get_or 0 W (row_slots t) (F.each ∙ sym (length-row_slots t))
    (λ j l.
    let h : j < rows_of t = omega (arith, F.each) in
    F.item j h ∙ sym (get_or-slots_from t 0 (rows_of t) j h ∙ ap (λ (x : ℕ). (placed_list t).slot (words t x)) (omega arith)))

-- ---- the outcome of an accepted list

-- slots 0 and 1
list-head : (t : List ℤ) → verdict t ≡ Accepted → Head (order_of t) (node_at (nodes_of t) 0) (placed_list t)
unfolding placed_list
list-head t a = placing-head (order_of t) (nodes_of t) (nodes_ready t a)

-- from the top on all slots are free
pub list-past : (t : List ℤ) → verdict t ≡ Accepted → (s : ℕ) → (placed_list t).top ≤ s → (placed_list t).check s ≡ free_check
unfolding placed_list
list-past t a = (placing_inv (order_of t) (nodes_of t) (nodes_ready t a)).past

-- a slice as long as what is written
written-whole : {A : Type 0} (new old : List A) → length new ≡ length old → written new old ≡ new
unfolding written
written-whole {A} new old e = ap (λ (l : List A). new ++ l) (drop_of_length-le old {i = length new} (omega arith)) ∙ append-nil new

module _ (t B C : List ℤ) (W : List ℕ) (same : length B ≡ length C) (each : length W ≡ rows_of t) where
  pub built-accepted : {r : ℕ} {B₁ C₁ B' C' : List ℤ} {W' : List ℕ} → verdict t ≡ Accepted → r ≤ length C → Tried t (length C) (placed_list t) r B₁ C₁ W'
      → Unlinked (length C) (update (placed_list t).base 0 (pos 1)) (update (placed_list t).check 0 (head_check (order_of t))) B' C'
      → IsBuilt (checked_build t B C W Accepted) Accepted B' C' W'
  unfolding filled
  built-accepted a e T U =
      let F = T.filled e in
      let H = list-head t a in
      let room : leb (placed_list t).top (length B) ≡ true = le-leb (placed_list t).top (length B) (omega (arith, F.room)) in
      rw room (record {
        answer-is = refl;
        base-is = U.base-slots ∙ (λ i. slots (sym same i) (update-kept (placed_list t).base 0 (pos 1) H.base_0 i));
        check-is = U.check-slots ∙ ap (slots (length C)) (update-kept (placed_list t).check 0 (head_check (order_of t)) H.check_0);
        work-is = filled-slots F ∙ sym (written-whole (row_slots t) W (length-row_slots t ∙ sym each));
      })

  pub built-refused : {B₁ C₁ B' C' : List ℤ} {W₁ W' : List ℕ} → length C < (placed_list t).top
      → length B₁ ≡ length B → length C₁ ≡ length C → length W₁ ≡ length W → Wiped B₁ C₁ W₁ B' C' W' → IsBuilt (checked_build t B C W Accepted) (Refused no_room 0) B' C' W'
  unfolding emptied
  built-refused e b c w X =
      let room : leb (placed_list t).top (length B) ≡ false = lt-leb (placed_list t).top (length B) (omega arith) in
      rw room (record {
        answer-is = refl;
        base-is = X.base-free ∙ ap (λ (n : ℕ). replicate n (pos 0)) b;
        check-is = X.check-free ∙ ap (λ (n : ℕ). replicate n free_check) c;
        work-is = X.items-zero ∙ ap (λ (n : ℕ). replicate n 0) (w ∙ each) ∙ sym (written-whole (replicate (rows_of t) 0) W (length-replicate (rows_of t) 0 ∙ sym each));
      })
