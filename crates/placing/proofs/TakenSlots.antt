-- How many slots the placing rule takes: two for each node, one for its place among its parent's children and one for its marker, but one alone for a node of n
-- words. Assumes nothing.
use mathlib.Core.Path.{◌≡◌, refl, sym, ap, ◌∙◌}
use mathlib.Core.Logic.{◌≢◌}
use mathlib.Core.Bool.{Bool, true, false, cond}
use mathlib.Core.List.{List, [], ◌∷◌, ◌++◌, Memᴰ}
use Prim.Native.Nat.{ℕ, zero, suc, ◌+◌, ◌*◌, ◌≤◌, ◌<◌}
use native.Mathlib.Omega.{arith}
use native.Mathlib.Decide.{ℕ_discrete, dec_lt}
use borrow.Author.Tests.{eq-eqb, ne_eqb}
use lib.Dec.{eqb}
use lib.IntN.{ℤ, pos, negsuc, pos-ne-negsuc}
use lib.ListN.{length, get_or, set, take}
use lib.Seq.{take-suc, take-length}
use Rattle.integer.proofs.Items.{get_or_in, in_get_or}
use Rattle.backoff.specs.Words.{same_words}
use Rattle.backoff.proofs.Words.{same_eq, same_refl, same_ne}
use Rattle.child_slots.specs.Children.{free_check, child_slot}
use Rattle.child_slots.proofs.Children.{slots_apart, marker_apart}
use Rattle.double_array.specs.DoubleArray.{head_check}
use Rattle.placing.specs.Trie.{Node, child_of, children, longest_nodes, node_at, Ready}
use Rattle.placing.specs.Placing.{Room, Placed, is_free, update, first_fit, own, settle, place_at, with_marker, without_marker, place_all, unplaced, placing, slots, taken_slots}
use Rattle.placing.proofs.FirstFit.{is_free-yes, is_free-no, side_at}
use Rattle.placing.proofs.Rooms.{update_other, Owned, kept, given, own_cases, reach-top, reach-child}
use Rattle.placing.proofs.Slots.{length-slots, get_or-slots, set-slots}
use Rattle.placing.proofs.Trie.{child-found, found_in, child-short}
use Rattle.placing.proofs.Placing.{NextMarked}
use Rattle.placing.proofs.NodeByNode.{place-longest, place-fewer, placed_first, placed_first_suc, placed_first_all, placed_first_over, marked-at, inv_first}

-- ---- one slot more

taken-set : (l : List ℤ) (i : ℕ) (v : ℤ) → i < length l → is_free (get_or l i (pos 0)) ≡ true → is_free v ≡ false → taken_slots (set l i v) ≡ suc (taken_slots l)
unfolding taken_slots
taken-set [] i v h e f = absurd (omega arith)
taken-set (c ∷ l) zero v h e f = rw (e, f)
taken-set (c ∷ l) (suc i) v h e f = go (is_free c) (taken-set l i v (omega arith) e f)
  where
    go : (b : Bool) → taken_slots (set l i v) ≡ suc (taken_slots l) → cond b (taken_slots (set l i v)) (suc (taken_slots (set l i v))) ≡ suc (cond b (taken_slots l) (suc (taken_slots l)))
    go true q = q
    go false q = ap suc q

abbrev taken_in : ℕ → Room → ℕ
taken_in N c = taken_slots (slots N c)

taken-update : (N : ℕ) (c : Room) (i : ℕ) (v : ℤ) → i < N → c i ≡ free_check → v ≢ free_check → taken_in N (update c i v) ≡ suc (taken_in N c)
taken-update N c i v h e n =
    ap taken_slots (sym (set-slots N c i v))
    ∙ taken-set (slots N c) i v (omega (arith, length-slots N c)) (ap is_free (get_or-slots N c i (pos 0) h) ∙ is_free-yes (c i) e) (is_free-no v n)

-- none of these words twice
data Once : List ℕ → Type 0 where
  none : Once []
  more : {w : ℕ} {ws : List ℕ} → (Memᴰ w ws → ⊥) → Once ws → Once (w ∷ ws)

-- the children's slots
taken_own : (N : ℕ) (behind : Bool) (d s : ℕ) (ws : List ℕ) (c : Room) → Once ws → ((w : ℕ) → Memᴰ w ws → 1 ≤ w) → ((w : ℕ) → Memᴰ w ws → 1 ≤ child_slot behind d w)
    → ((w : ℕ) → Memᴰ w ws → child_slot behind d w < N) → ((w : ℕ) → Memᴰ w ws → c (child_slot behind d w) ≡ free_check) → taken_in N (own behind d s ws c) ≡ length ws + taken_in N c
unfolding own
taken_own N behind d s [] c o p q l f = omega arith
taken_own N behind d s (w ∷ ws) c (more n o) p q l f =
    taken_own N behind d s ws (update c (child_slot behind d w) (pos s)) o (λ v m. p v (Memᴰ.tail m)) (λ v m. q v (Memᴰ.tail m)) (λ v m. l v (Memᴰ.tail m)) other
    ∙ ap (λ (k : ℕ). length ws + k) (taken-update N c (child_slot behind d w) (pos s) (l w here) (f w here) (λ e. pos-ne-negsuc _ _ e)) ∙ omega arith
  where
    here : Memᴰ w (w ∷ ws)
    here = Memᴰ.head refl

    other : (v : ℕ) → Memᴰ v ws → update c (child_slot behind d w) (pos s) (child_slot behind d v) ≡ free_check
    other v m =
        update_other c (child_slot behind d w) (pos s) (child_slot behind d v)
        (λ e. n (rw (slots_apart behind behind d v w (p v (Memᴰ.tail m)) (p w here) (q v (Memᴰ.tail m)) (q w here) e).1 at m))
        ∙ f v (Memᴰ.tail m)

-- ---- one node more

module _ {order : ℕ} {all done : List Node} {P : Placed} {n : Node} {behind : Bool} {d : ℕ} (M : NextMarked order all done P n behind d) (once : Once (children all n.words))
    (N : ℕ) (room : (settle n (children all n.words) behind d P).top ≤ N) where
  abbrev ws : List ℕ
  ws = children all n.words

  abbrev s : ℕ
  s = P.slot n.words

  marker_free : own behind d s ws P.check d ≡ free_check
  marker_free = go (own_cases behind d s ws P.check d)
    where
      go : Owned behind d s ws d (P.check d) (own behind d s ws P.check d) → own behind d s ws P.check d ≡ free_check
      go (kept q r) = q ∙ M.d_free
      go (given w h p q) = absurd (marker_apart behind d w M.d_positive (M.positive w h) p)

  taken-settle : taken_in N (settle n ws behind d P).check ≡ suc (length ws) + taken_in N P.check
  unfolding settle
  taken-settle =
      taken-update N (own behind d s ws P.check) d (negsuc n.cost) (omega (arith, room, (reach-top P.top behind d ws).1)) marker_free
      (λ e. let z : n.cost ≡ 2147483647 = cc in absurd (omega (arith, M.used)))
      ∙ ap suc (taken_own N behind d s ws P.check once M.positive M.children-positive (λ w h. omega (arith, room, reach-child P.top behind d ws w h)) M.children-free) ∙ omega arith

-- ---- each node is the child of one other, but the root

-- nodes of which no two have the same words
abbrev Distinct : List Node → Type 0
Distinct nodes = (i j : ℕ) → i < j → j < length nodes → (node_at nodes i).words ≢ (node_at nodes j).words

rest-distinct : (m : Node) (ms : List Node) → Distinct (m ∷ ms) → Distinct ms
rest-distinct m ms D i j l h = D (suc i) (suc j) (omega arith) (omega arith)

head-distinct : (m : Node) (ms : List Node) → Distinct (m ∷ ms) → (k : Node) → Memᴰ k ms → m.words ≢ k.words
head-distinct m ms D k h e =
    let i = in_get_or ms _ k h in
    D 0 (suc i.0) (omega arith) (omega (arith, i.1)) (e ∙ sym (ap (λ (x : Node). x.words) i.2))

children-once : (nodes : List Node) → Distinct nodes → (us : List ℕ) → Once (children nodes us)
unfolding children
children-once [] D us = none
children-once (m ∷ ms) D us = go m.words refl (children-once ms (rest-distinct m ms D) us)
  where
    go : (vs : List ℕ) → m.words ≡ vs → Once (children ms us) → Once (child_of us vs (children ms us))
    go [] e o = o
    go (w ∷ vs) e o = same (same_words vs us) refl
      where
        same : (b : Bool) → same_words vs us ≡ b → Once (cond b (w ∷ children ms us) (children ms us))
        same true q = more
            (λ h.
            let f = child-found ms us w h in
            let k = found_in ms (w ∷ us) f.0 f.1 in
            head-distinct m ms D f.0 k.0 (e ∙ ap (λ (l : List ℕ). w ∷ l) (same_eq vs us q) ∙ sym k.1))
            o
        same false q = o

-- 1 where `vs` is a child of `us`, and how often one of the nodes ms is its parent
abbrev is_child : List ℕ → List ℕ → ℕ
is_child us [] = 0
is_child us (w ∷ vs) = cond (same_words vs us) 1 0

unfoldable parents_among : List Node → List ℕ → ℕ
parents_among [] vs = 0
parents_among (m ∷ ms) vs = is_child m.words vs + parents_among ms vs

-- how many children the nodes ms have together
unfoldable children_of_all : List Node → List Node → ℕ
children_of_all all [] = 0
children_of_all all (m ∷ ms) = length (children all m.words) + children_of_all all ms

child-count : (us vs ks : List ℕ) → length (child_of us vs ks) ≡ is_child us vs + length ks
child-count us [] ks = omega arith
child-count us (w ∷ vs) ks = go (same_words vs us)
  where
    go : (b : Bool) → length (cond b (w ∷ ks) ks) ≡ cond b 1 0 + length ks
    go true = omega arith
    go false = omega arith

one-child-more : (k : Node) (ks ms : List Node) → children_of_all (k ∷ ks) ms ≡ parents_among ms k.words + children_of_all ks ms
unfolding children_of_all parents_among children
one-child-more k ks [] = omega arith
one-child-more k ks (m ∷ ms) = omega (arith, child-count m.words k.words (children ks m.words), one-child-more k ks ms)

no-children : (ms : List Node) → children_of_all [] ms ≡ 0
unfolding children_of_all children
no-children [] = refl
no-children (m ∷ ms) = omega (arith, no-children ms)

-- where each of the nodes has one parent among ms, these have as many children as there are nodes
each-one-parent : (all ms : List Node) → ((k : Node) → Memᴰ k all → parents_among ms k.words ≡ 1) → children_of_all all ms ≡ length all
each-one-parent [] ms f = no-children ms
each-one-parent (k ∷ ks) ms f = one-child-more k ks ms ∙ omega (arith, f k (Memᴰ.head refl), each-one-parent ks ms (λ m h. f m (Memᴰ.tail h)))

root-no-parent : (ms : List Node) → parents_among ms [] ≡ 0
unfolding parents_among
root-no-parent [] = refl
root-no-parent (m ∷ ms) = omega (arith, root-no-parent ms)

parents-none : (ms : List Node) (w : ℕ) (us : List ℕ) → ((k : Node) → Memᴰ k ms → us ≢ k.words) → parents_among ms (w ∷ us) ≡ 0
unfolding parents_among
parents-none [] w us f = refl
parents-none (m ∷ ms) w us f = rw (same_ne us m.words (f m (Memᴰ.head refl))) (omega (arith, parents-none ms w us (λ k h. f k (Memᴰ.tail h))))

parent-once : (ms : List Node) → Distinct ms → (w : ℕ) (m : Node) → Memᴰ m ms → parents_among ms (w ∷ m.words) ≡ 1
unfolding parents_among
parent-once [] D w m x'' = elim x'' [ ]
parent-once (c ∷ ms) D w m (Memᴰ.head e) =
    rw (e, same_refl c.words) (omega (arith, parents-none ms w c.words (head-distinct c ms D)))
parent-once (c ∷ ms) D w m (Memᴰ.tail h) =
    rw (same_ne m.words c.words (λ e. head-distinct c ms D m h (sym e))) (omega (arith, parent-once ms (rest-distinct c ms D) w m h))

nodes-children : {order : ℕ} (nodes : List Node) → Ready order nodes → suc (children_of_all nodes nodes) ≡ length nodes
nodes-children [] R = absurd (omega (arith, R.nonempty))
nodes-children (r ∷ rest) R =
    omega (arith, one-child-more r rest (r ∷ rest), ap (parents_among (r ∷ rest)) R.root, root-no-parent (r ∷ rest), each-one-parent rest (r ∷ rest) has-parent)
  where
    has-parent : (k : Node) → Memᴰ k rest → parents_among (r ∷ rest) k.words ≡ 1
    has-parent k h =
        let i = in_get_or rest (record { words = []; cost = 0; load = pos 0 }) k h in
        let p = R.parents (suc i.0) (omega arith) (omega (arith, i.1)) in
        let m = node_at (r ∷ rest) p.parent in
        ap (parents_among (r ∷ rest)) (sym (ap (λ (x : Node). x.words) i.2) ∙ p.words)
        ∙ parent-once (r ∷ rest) R.distinct p.word m (get_or_in (r ∷ rest) p.parent (record { words = []; cost = 0; load = pos 0 }) (omega (arith, p.earlier, i.1)))

-- ---- all nodes

children-more : (all ms : List Node) (n : Node) → children_of_all all (ms ++ (n ∷ [])) ≡ children_of_all all ms + length (children all n.words)
unfolding children_of_all
children-more all [] n = omega arith
children-more all (m ∷ ms) n = omega (arith, children-more all ms n)

longest-more : (order : ℕ) (ms : List Node) (n : Node) → longest_nodes order (ms ++ (n ∷ [])) ≡ longest_nodes order ms + cond (eqb (length n.words) order) 1 0
unfolding longest_nodes
longest-more order [] n = go (eqb (length n.words) order)
  where
    go : (b : Bool) → cond b 1 0 ≡ 0 + cond b 1 0
    go true = omega arith
    go false = omega arith
longest-more order (m ∷ ms) n = go (eqb (length m.words) order) (longest-more order ms n)
  where
    go : (b : Bool) → longest_nodes order (ms ++ (n ∷ [])) ≡ longest_nodes order ms + cond (eqb (length n.words) order) 1 0
        → cond b (suc (longest_nodes order (ms ++ (n ∷ [])))) (longest_nodes order (ms ++ (n ∷ []))) ≡ cond b (suc (longest_nodes order ms)) (longest_nodes order ms) + cond (eqb (length n.words) order) 1 0
    go true q = omega arith
    go false q = omega arith

taken_none : (N : ℕ) → taken_in N (λ t. free_check) ≡ 0
unfolding taken_slots slots
taken_none zero = refl
taken_none (suc N) = rw (is_free-yes free_check refl) (taken_none N)

module _ {order : ℕ} {nodes : List Node} (R : Ready order nodes) (N : ℕ) (room : (placing order nodes).top ≤ N) where
  first-room : (i : ℕ) → (placed_first order nodes i).top ≤ N
  first-room i = go (dec_lt N (placed_first order nodes i).top)
    where
      go : Dec (N < (placed_first order nodes i).top) → (placed_first order nodes i).top ≤ N
      go (yes l) = absurd (omega (arith, placed_first_over order nodes i N l))
      go (no l) = omega arith

  -- once the first i nodes are placed
  abbrev Counted : ℕ → Type 0
  Counted i = taken_in N (placed_first order nodes i).check + longest_nodes order (take i nodes) ≡ suc (i + children_of_all nodes (take i nodes))

  counted_none : Counted 0
  unfolding place_all unplaced longest_nodes children_of_all
  counted_none =
      omega (arith, taken-update N (λ t. free_check) 0 (head_check order) (omega (arith, first-room 0)) refl (λ e. pos-ne-negsuc _ _ e), taken_none N)

  childless : (n : Node) → length n.words ≡ order → length (children nodes n.words) ≡ 0
  childless n e = go (children nodes n.words) refl
    where
      go : (ws : List ℕ) → children nodes n.words ≡ ws → length ws ≡ 0
      go [] q = refl
      go (w ∷ ws) q = absurd (omega (arith, child-short R n.words w (rw q (Memᴰ.head refl))))

  counted_next : (i : ℕ) → i < length nodes → Counted i → Counted (suc i)
  unfolding with_marker place_at without_marker
  counted_next i h c =
      let first : take (suc i) nodes ≡ take i nodes ++ (n ∷ []) = take-suc nodes i _ h in
      let l = ap (longest_nodes order) first ∙ longest-more order (take i nodes) n in
      let k = ap (children_of_all nodes) first ∙ children-more nodes (take i nodes) n in
      omega (arith, l, k, go (ℕ_discrete (length n.words) order))
    where
      n : Node
      n = node_at nodes i

      P : Placed
      P = placed_first order nodes i

      go : Dec (length n.words ≡ order)
          → taken_in N (placed_first order nodes (suc i)).check + (longest_nodes order (take i nodes) + cond (eqb (length n.words) order) 1 0) ≡ suc (suc i + (children_of_all nodes (take i nodes) + length (children nodes n.words)))
      go (yes e) =
          let q : placed_first order nodes (suc i) ≡ without_marker n P = placed_first_suc order nodes i h ∙ place-longest order n (children nodes n.words) P e in
          rw (eq-eqb (length n.words) order e) (omega (arith, ap (λ (Q : Placed). taken_in N Q.check) q, c, childless n e))
      go (no e) =
          let ws = children nodes n.words in
          let d = first_fit P.check ws P.top in
          let q : placed_first order nodes (suc i) ≡ settle n ws (side_at P.check ws d) d P = placed_first_suc order nodes i h ∙ place-fewer order n ws P e in
          let I = inv_first order nodes R i (omega arith) in
          rw (ne_eqb (length n.words) order e)
          (omega (arith, ap (λ (Q : Placed). taken_in N Q.check) q, c, taken-settle (marked-at order nodes R i h e I) (children-once nodes R.distinct n.words) N (rw q at (first-room (suc i)))))

  counted : (i : ℕ) → i ≤ length nodes → Counted i
  counted zero h = counted_none
  counted (suc i) h = counted_next i (omega arith) (counted i (omega arith))

  -- The array has two slots for each node that are not free, but one for each node of n words.
  pub taken-slots : taken_slots (slots N (placing order nodes).check) + longest_nodes order nodes ≡ 2 * length nodes
  taken-slots =
      omega (
        arith,
        counted (length nodes) (omega arith),
        ap (λ (Q : Placed). taken_in N Q.check) (placed_first_all order nodes),
        ap (longest_nodes order) (take-length nodes),
        ap (children_of_all nodes) (take-length nodes),
        nodes-children nodes R,
      )
