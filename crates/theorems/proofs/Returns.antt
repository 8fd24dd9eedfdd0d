-- Over the arrays that an accepted build leaves, unload gives the list back, row for row, with the slots that the build left in work. Assumes nothing.
use Rattle.std.specs.declared.option.Option.{Option}
use Rattle.std.specs.declared.option.Option.TheVariants.{Some, None}
use mathlib.Core.Path.{◌≡◌, refl, sym, ap, ◌∙◌}
use mathlib.Core.Bool.{Bool, true, false, ◌&&◌}
use mathlib.Core.List.{List, [], ◌∷◌}
use Prim.Native.Nat.{ℕ, ◌*◌, ◌≤◌, ◌<◌}
use native.Mathlib.Omega.{arith}
use borrow.Author.Tests.{leb-true}
use lib.Dec.{leb}
use lib.ListN.{length, get_or, drop}
use lib.Seq.{take_at, drop_at, ext_get_or}
use lib.IntN.{ℤ, pos, nat_abs}
use Rattle.integer.proofs.Ranges.{and_left, and_right}
use Rattle.backoff.specs.Limits.{slot_limit}
use Rattle.backoff.specs.Refusal.{short_slice}
use Rattle.backoff.specs.Model.{Model}
use Rattle.backoff.specs.Run.{written}
use Rattle.backoff.specs.Refusal.{Accepted, Refused}
use Rattle.rows.specs.Table.{rows_of, order_of, words}
use Rattle.list.specs.Check.{verdict}
use Rattle.list.proofs.Check.{accepted-size}
use Rattle.double_array.specs.DoubleArray.{order_in}
use Rattle.placing.specs.Trie.{Node, find_node, Ready}
use Rattle.placing.specs.Placing.{slots}
use Rattle.placing.proofs.Trie.{root-found, parent-found}
use Rattle.placing.proofs.NodeByNode.{placing-head}
use Rattle.placing.proofs.Slots.{get_or-slots}
use Rattle.placing.proofs.Walk.{LaidOut, child_if, placing_laid_out}
use Rattle.row_nodes.specs.ListTrie.{root_of, nodes_of}
use Rattle.row_nodes.proofs.ListTrie.{node_at-root, nodes_ready}
use Rattle.list_trie.specs.ListTrie.{placed_list, slots_from, row_slots}
use Rattle.list_trie.proofs.ListTrie.{find_node-row}
use Rattle.placed_list.proofs.Outcome.{length-slots_from, get_or-slots_from}
use Rattle.build.specs.Build.{build_outcome}
use Rattle.build.proofs.Built.{built-array, built-order, built-model, built-whole, build_accepted}
use Rattle.array_nodes.specs.Nodes.{walk_to, reached, slots_of}
use Rattle.array_nodes.proofs.Gathering.{length-slots_of}
use Rattle.node_rows.proofs.Rows.{rows-table_of}
use Rattle.node_list.specs.Listed.{rows_in}
use Rattle.unload.specs.Unload.{Unloaded, untouched, unload_outcome}
use Rattle.unload.specs.Meaning.{Holds}
use Rattle.unload.proofs.Held.{held-table}
use Rattle.unload.proofs.Meaning.{held-unloads, held-slot}
use Rattle.theorems.specs.Returns.{ReturnsList}

-- in a layout, words lead to the slot of their node
walk_laid_out : {order : ℕ} {nodes : List Node} {slot : List ℕ → ℕ} {base check : List ℤ} → Ready order nodes → LaidOut nodes slot base check → (us : List ℕ) → walk_to base check us ≡ child_if (find_node nodes us) (slot us)
unfolding walk_to
walk_laid_out R L [] = let r = root-found R in rw (r.1, L.root)
walk_laid_out {order} {nodes} {slot} {base} {check} R L (w ∷ us) = go (find_node nodes us) refl (walk_laid_out R L us)
  where
    orphan : find_node nodes us ≡ None → (o : Option Node) → find_node nodes (w ∷ us) ≡ o → o ≡ None
    orphan q None e = refl
    orphan q (Some m) e = let k = parent-found R w us m e in absurd (let z : ◌≡◌ {A = ℕ} 0 1 = cc in omega arith)

    go : (o : Option Node) → find_node nodes us ≡ o → walk_to base check us ≡ child_if (find_node nodes us) (slot us)
        → walk_to base check (w ∷ us) ≡ child_if (find_node nodes (w ∷ us)) (slot (w ∷ us))
    go None q ih = rw (ih, q, orphan q (find_node nodes (w ∷ us)) refl)
    go (Some m) q ih = rw (ih, q) (L.child us m q w)

-- slices in which the rows of t and their slots have room
abbrev is_long : List ℤ → List ℤ → List ℕ → Bool
is_long t table work = leb (8 * rows_of t) (length table) && leb (rows_of t) (length work)

-- what unload answers and leaves in them, or by 15 in shorter ones, where the array is t's
abbrev given_back : List ℤ → List ℤ → List ℕ → Bool → Unloaded
given_back t table work true = record { answer = Accepted; table = written t table; work = written (row_slots t) work }
given_back t table work false = record { answer = Refused short_slice 0; table = table; work = work }

-- ---- the first N slots of the placed array

module _ (t : List ℤ) (a : verdict t ≡ Accepted) (N : ℕ) (low : 2 ≤ N) (high : N ≤ slot_limit) (room : (placed_list t).top ≤ N) where
  abbrev B : List ℤ
  B = slots N (placed_list t).base

  abbrev C : List ℤ
  C = slots N (placed_list t).check

  rows-read : rows_in B ≡ rows_of t
  unfolding rows_in placed_list root_of
  rows-read =
      ap nat_abs
      (get_or-slots N (placed_list t).base 1 (pos 0) (omega arith) ∙ (placing-head (order_of t) (nodes_of t) (nodes_ready t a)).base_1
      ∙ ap (λ (n : Node). n.load) (node_at-root t))

  placed-holds : Holds B C t
  placed-holds = record {
    array = built-array t a N low high room;
    list = a;
    rows = sym rows-read;
    order = sym (built-order t a N low high room);
    find = λ l h. ap (λ (M : Model). M.find l) (built-model t a N low high room);
    sound = λ l h. (built-whole t a N low high room).sound l;
  }

  row-walk : (i : ℕ) → i < rows_of t → walk_to B C (words t i) ≡ Some ((placed_list t).slot (words t i))
  unfolding placed_list
  row-walk i h = walk_laid_out (nodes_ready t a) (placing_laid_out (order_of t) (nodes_ready t a) N room) (words t i) ∙ rw (find_node-row t a i h)

  slots-back : slots_of (reached B C (order_in C)) ≡ row_slots t
  unfolding row_slots
  slots-back =
      let k : length (slots_of (reached B C (order_in C))) ≡ rows_of t = length-slots_of (reached B C (order_in C)) ∙ sym (rows-table_of B C (reached B C (order_in C))) ∙ ap rows_of (held-table B C t placed-holds) in
      ext_get_or 0 (slots_of (reached B C (order_in C))) (slots_from t 0 (rows_of t)) (k ∙ sym (length-slots_from t 0 (rows_of t)))
      (λ i h.
      let l : i < rows_of t = omega arith in
      let e : Some (get_or (slots_of (reached B C (order_in C))) i 0) ≡ Some ((placed_list t).slot (words t i)) = sym (held-slot B C t placed-holds i l) ∙ row-walk i l in
      let f : get_or (slots_from t 0 (rows_of t)) i 0 ≡ (placed_list t).slot (words t i) = get_or-slots_from t 0 (rows_of t) i l ∙ ap (λ (n : ℕ). (placed_list t).slot (words t n)) (omega arith) in
      cc)

  placed-unloads : (table : List ℤ) (work : List ℕ) → length t ≤ length table → rows_of t ≤ length work → unload_outcome B C table work ≡ given_back t table work true
  placed-unloads table work h k = held-unloads B C t placed-holds table work h k ∙ rw slots-back

  placed-unloads_any : (table : List ℤ) (work : List ℕ) → unload_outcome B C table work ≡ given_back t table work (is_long t table work)
  placed-unloads_any table work = go (is_long t table work) refl
    where
      go : (b : Bool) → is_long t table work ≡ b → unload_outcome B C table work ≡ given_back t table work b
      go true e =
          let h = leb-true (8 * rows_of t) (length table) (and_left (leb (8 * rows_of t) (length table)) (leb (rows_of t) (length work)) e) in
          let k = leb-true (rows_of t) (length work) (and_right (leb (8 * rows_of t) (length table)) (leb (rows_of t) (length work)) e) in
          placed-unloads table work (omega (arith, (accepted-size t a).2)) k
      go false e = unfold unload_outcome untouched in rw (built-array t a N low high room, rows-read, e)

-- it depends on the list alone, and not on the slots of the array
pub build_unloads : (table base check : List ℤ) (work : List ℕ) (table' : List ℤ) (work' : List ℕ) → (build_outcome table base check work).answer ≡ Accepted
    → unload_outcome (build_outcome table base check work).base (build_outcome table base check work).check table' work' ≡ given_back table table' work' (is_long table table' work')
build_unloads table base check work table' work' e =
    let b = build_accepted table base check work e in
    rw (b.base-slots, b.check-slots) (placed-unloads_any table b.accepted (length base) b.sizes.low b.sizes.high b.room table' work')

pub unload_returns_the_list : (table base check : List ℤ) (work : List ℕ) (table' : List ℤ) (work' : List ℕ) → (build_outcome table base check work).answer ≡ Accepted
    → length table ≤ length table' → rows_of table ≤ length work' → ReturnsList table base check work table' work'
unfolding written
unload_returns_the_list table base check work table' work' e h k =
    let b = build_accepted table base check work e in
    let n : length (row_slots table) ≡ rows_of table = (unfold row_slots in length-slots_from table 0 (rows_of table)) in
    let u : unload_outcome (build_outcome table base check work).base (build_outcome table base check work).check table' work' ≡ given_back table table' work' true = rw (b.base-slots, b.check-slots) (placed-unloads table b.accepted (length base) b.sizes.low b.sizes.high b.room table' work' h k) in
    record {
      accepted = rw u;
      rows = rw u (take_at table _ (length table) refl);
      past-rows = rw u (drop_at table _ (length table) refl);
      slots = rw (u, b.work-slots) (take_at (row_slots table) _ (rows_of table) n ∙ sym (take_at (row_slots table) _ (rows_of table) n));
      past-slots = rw u (drop_at (row_slots table) _ (rows_of table) n ∙ ap (λ (m : ℕ). drop m work') n);
    }
