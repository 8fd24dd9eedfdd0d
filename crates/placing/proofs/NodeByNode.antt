-- The nodes placed one by one: the invariant holds before each node's turn and of the finished array, the reach only grows, and what the head holds.
-- Assumes nothing.
use mathlib.Core.Path.{◌≡◌, refl, sym, ap, ◌∙◌, subst}
use mathlib.Core.Logic.{◌≢◌}
use mathlib.Core.List.Memᴰ
use mathlib.Core.List.{List, [], ◌∷◌, ◌++◌, Memᴰ}
use Prim.Native.Nat.{ℕ, zero, suc, ◌-◌, ◌≤◌, ◌<◌}
use native.Mathlib.Omega.{arith}
use native.Mathlib.Decide.{ℕ_discrete}
use borrow.Author.Tests.{eq-eqb, ne_eqb}
use lib.IntN.{pos, negsuc, pos-ne-negsuc}
use lib.ListN.{length, get_or, take, drop, length-take, take-append-drop}
use lib.Seq.{take-suc, take-length, get_or-take}
use Rattle.integer.proofs.Items.{get_or_in, in_get_or}
use Rattle.child_slots.specs.Children.{free_check}
use Rattle.double_array.specs.DoubleArray.{head_check}
use Rattle.placing.specs.Trie.{Node, children, node_at, Ready}
use Rattle.placing.specs.Placing.{Room, Placed, update, settle, place_at, with_marker, without_marker, place, first_fit, place_all, unplaced, placing}
use Rattle.placing.proofs.Trie.{in_child, root_in, child-positive, child-short}
use Rattle.placing.proofs.FirstFit.{side_at, open_told, past_top, fit_positive, fit_free, fit_children_open, fit_only}
use Rattle.placing.proofs.Rooms.{update_same, update_other, reach-top}
use Rattle.placing.proofs.Placing.{Slotted, Inv, Next, NextMarked, base_n, root_stays, settle_keeps, bare-root, bare_keeps}

-- ---- the first items of a list, by their place

module _ {A : Type 0} (l : List A) (i : ℕ) where
  get_or_in_take : (j : ℕ) (x : A) → j < i → j < length l → Memᴰ (get_or l j x) (take i l)
  get_or_in_take j x h k = rw (get_or-take i l j x h) at (get_or_in (take i l) j x (omega (arith, length-take i l)))

  in_take_get_or : (x a : A) → Memᴰ a (take i l) → (j : ℕ) × (j < i) × (get_or l j x ≡ a)
  in_take_get_or x a h =
      let r = in_get_or (take i l) x a h in
      let k : r.0 < i = omega (arith, r.1, length-take i l) in
      (r.0, k, sym (get_or-take i l r.0 x k) ∙ r.2)

-- ---- node by node

unplaced_inv : (order : ℕ) (all : List Node) → ((us : List ℕ) (w : ℕ) → Memᴰ w (children all us) → length us < order) → Inv order all [] (unplaced order)
unfolding unplaced
unplaced_inv order all short = record {
  head = update_same (λ t. free_check) 0 (head_check order) 0 refl;
  root = refl;
  closed = λ m h. absurd (Memᴰ.not-nil h);
  short = short;
  lies = λ m h n. absurd (Memᴰ.not-nil h);
  own-base = λ m h e. absurd (Memᴰ.not-nil h);
  holds = λ t s l e. absurd (pos-ne-negsuc _ _ (sym e ∙ update_other (λ t. free_check) 0 (head_check order) t (λ q. absurd (omega arith))));
  past = λ t l. update_other (λ t. free_check) 0 (head_check order) t (λ q. absurd (omega arith));
  last = λ t q z. pos-ne-negsuc _ _ (sym (update_same (λ t. free_check) 0 (head_check order) t (omega arith)) ∙ z);
  blank = λ t e. refl;
}

-- which way a node goes
module _ (order : ℕ) (n : Node) (ws : List ℕ) (P : Placed) where
  pub place-longest : length n.words ≡ order → place order n ws P ≡ without_marker n P
  unfolding place
  place-longest e = rw (eq-eqb (length n.words) order e)

  pub place-fewer : length n.words ≢ order → place order n ws P ≡ with_marker n ws P
  unfolding place
  place-fewer h = rw (ne_eqb (length n.words) order h)

  place_grows : P.top ≤ (place order n ws P).top
  unfolding with_marker without_marker place_at settle
  place_grows = go (ℕ_discrete (length n.words) order)
    where
      go : Dec (length n.words ≡ order) → P.top ≤ (place order n ws P).top
      go (yes e) = rw (place-longest e) (omega arith)
      go (no e) =
          let d = first_fit P.check ws P.top in
          rw (place-fewer e) (reach-top P.top (side_at P.check ws d) d ws).0

-- the nodes in two lots
place_all_append : (order : ℕ) (all ms ns : List Node) (P : Placed) → place_all order all (ms ++ ns) P ≡ place_all order all ns (place_all order all ms P)
unfolding place_all
place_all_append order all [] ns P = refl
place_all_append order all (m ∷ ms) ns P = place_all_append order all ms ns (place order m (children all m.words) P)

-- the reach only grows
top_grows : (order : ℕ) (all ns : List Node) (P : Placed) → P.top ≤ (place_all order all ns P).top
unfolding place_all
top_grows order all [] P = omega arith
top_grows order all (n ∷ ns) P = omega (arith, top_grows order all ns (place order n (children all n.words) P), place_grows order n (children all n.words) P)

-- so a part of the nodes that passes slot N refuses the whole
over_stays_over : (order : ℕ) (all ms ns : List Node) (P : Placed) (N : ℕ) → N < (place_all order all ms P).top → N < (place_all order all (ms ++ ns) P).top
over_stays_over order all ms ns P N h = rw (place_all_append order all ms ns P) (omega (arith, top_grows order all ns (place_all order all ms P)))

-- slots 0 and 1 of an array whose root is r
pub record Head (order : ℕ) (r : Node) (P : Placed) : Type 0 where
  pub base_0 : P.base 0 ≡ pos 1
  pub check_0 : P.check 0 ≡ head_check order
  pub base_1 : P.base 1 ≡ r.load
  pub check_1 : P.check 1 ≡ negsuc r.cost

-- the root's d is 1
root_fit : (order : ℕ) (ws : List ℕ) → first_fit (unplaced order).check ws (unplaced order).top ≡ 1
unfolding unplaced
root_fit order ws = sym (fit_only c ws 1 past 1 (omega arith) (past_top c ws 1 1 past (omega arith) (omega arith)) (λ e l h. absurd (omega arith)))
  where
    c : Room
    c = update (λ t. free_check) 0 (head_check order)

    past : (t : ℕ) → 1 ≤ t → c t ≡ free_check
    past t l = update_other (λ t. free_check) 0 (head_check order) t (λ q. absurd (omega arith))

-- the first i nodes are placed
abbrev pub placed_first : ℕ → List Node → ℕ → Placed
placed_first order nodes i = place_all order nodes (take i nodes) (unplaced order)

module _ (order : ℕ) (nodes : List Node) where
  pub placed_first_suc : (i : ℕ) → i < length nodes
      → placed_first order nodes (suc i) ≡ place order (node_at nodes i) (children nodes (node_at nodes i).words) (placed_first order nodes i)
  unfolding place_all
  placed_first_suc i h =
      ap (λ (ns : List Node). place_all order nodes ns (unplaced order)) (take-suc nodes i _ h)
      ∙ place_all_append order nodes (take i nodes) (node_at nodes i ∷ []) (unplaced order)

  pub placed_first_all : placed_first order nodes (length nodes) ≡ placing order nodes
  unfolding placing
  placed_first_all = ap (λ (ns : List Node). place_all order nodes ns (unplaced order)) (take-length nodes)

  pub placed_first_over : (i N : ℕ) → N < (placed_first order nodes i).top → N < (placing order nodes).top
  unfolding placing
  placed_first_over i N h =
      subst (λ (ns : List Node). N < (place_all order nodes ns (unplaced order)).top) (take-append-drop i nodes)
      (over_stays_over order nodes (take i nodes) (drop i nodes) (unplaced order) N h)

  module _ (R : Ready order nodes) where
    slotted_at : (i : ℕ) → i < length nodes → Slotted nodes (take i nodes) (node_at nodes i).words
    slotted_at zero h = subst (Slotted nodes []) (sym R.root) tt
    slotted_at (suc i) h =
        let p = R.parents (suc i) (omega arith) h in
        let m = node_at nodes p.parent in
        subst (Slotted nodes (take (suc i) nodes)) (sym p.words) (
          m,
          get_or_in_take nodes (suc i) p.parent _ p.earlier (omega (arith, p.earlier)),
          refl,
          in_child nodes (node_at nodes (suc i)) p.word m.words (get_or_in nodes (suc i) _ h) p.words,
        )

    fresh_at : (i : ℕ) → i < length nodes → (m : Node) → Memᴰ m (take i nodes) → m.words ≢ (node_at nodes i).words
    fresh_at i h m k e =
        let r = in_take_get_or nodes i _ m k in
        R.distinct r.0 i r.1 h (ap (λ (n : Node). n.words) r.2 ∙ e)

    pub next-at : (i : ℕ) → i < length nodes → Next nodes (take i nodes) (node_at nodes i)
    next-at i h = record { slotted = slotted_at i h; fresh = fresh_at i h }

    -- node i, where it has fewer words than the order, may take the first fit once those before it are placed,
    pub marked-at : (i : ℕ) → i < length nodes → length (node_at nodes i).words ≢ order → {P : Placed} → Inv order nodes (take i nodes) P
        → NextMarked order nodes (take i nodes) P (node_at nodes i) (side_at P.check (children nodes (node_at nodes i).words) (first_fit P.check (children nodes (node_at nodes i).words) P.top)) (first_fit P.check (children nodes (node_at nodes i).words) P.top)
    marked-at i h e {P} I =
        let n = node_at nodes i in
        let ws = children nodes n.words in
        record {
          next = next-at i h;
          fewer = e;
          used = R.costs i h;
          positive = child-positive R n.words;
          d_positive = fit_positive P.check ws P.top I.past;
          d_free = fit_free P.check ws P.top I.past;
          children-positive = λ w m. (open_told P.check _ (fit_children_open P.check ws P.top I.past w m)).0;
          children-free = λ w m. (open_told P.check _ (fit_children_open P.check ws P.top I.past w m)).1;
        }

    -- and so the invariant holds before each node's turn
    inv_none : Inv order nodes [] (placed_first order nodes 0)
    unfolding place_all
    inv_none = unplaced_inv order nodes (child-short R)

    inv_next : (i : ℕ) → i < length nodes → Inv order nodes (take i nodes) (placed_first order nodes i) → Inv order nodes (take (suc i) nodes) (placed_first order nodes (suc i))
    unfolding with_marker place_at
    inv_next i h I =
        let first : take (suc i) nodes ≡ take i nodes ++ (node_at nodes i ∷ []) = take-suc nodes i _ h in
        rw (placed_first_suc i h, first) (go (ℕ_discrete (length n.words) order))
      where
        n : Node
        n = node_at nodes i

        go : Dec (length n.words ≡ order) → Inv order nodes (take i nodes ++ (n ∷ [])) (place order n (children nodes n.words) (placed_first order nodes i))
        go (yes e) = rw (place-longest order n (children nodes n.words) (placed_first order nodes i) e) (bare_keeps I (next-at i h) e)
        go (no e) = rw (place-fewer order n (children nodes n.words) (placed_first order nodes i) e) (settle_keeps I (marked-at i h e I))

    pub inv_first : (i : ℕ) → i ≤ length nodes → Inv order nodes (take i nodes) (placed_first order nodes i)
    inv_first zero h = inv_none
    inv_first (suc i) h = inv_next i h (inv_first i (omega arith))

    pub placing_inv : Inv order nodes nodes (placing order nodes)
    unfolding placing
    placing_inv = rw (take-length nodes) at (inv_first (length nodes) (omega arith))

    -- ---- the head of the array

    root-fewer : length (node_at nodes 0).words ≢ order
    root-fewer e = absurd (omega (arith, R.some_words, ap length R.root))

    -- the root's BASE is 1 and stays
    root-base-first : (placed_first order nodes 1).base 0 ≡ pos 1
    unfolding place_all with_marker place_at
    root-base-first =
        let I = inv_none in
        let r = node_at nodes 0 in
        let s : (placed_first order nodes 0).slot r.words ≡ 0 = ap (placed_first order nodes 0).slot R.root ∙ I.root in
        rw (placed_first_suc 0 R.nonempty, place-fewer order r (children nodes r.words) (placed_first order nodes 0) root-fewer)
        (rw s at (base_n I (marked-at 0 R.nonempty root-fewer I)) ∙ ap pos (root_fit order (children nodes r.words)))

    root-base-next : (i : ℕ) → suc i < length nodes → (placed_first order nodes (suc i)).base 0 ≡ pos 1 → (placed_first order nodes (suc (suc i))).base 0 ≡ pos 1
    unfolding with_marker place_at
    root-base-next i h e = rw (placed_first_suc (suc i) h) (go (ℕ_discrete (length n.words) order) ∙ e)
      where
        n : Node
        n = node_at nodes (suc i)

        P : Placed
        P = placed_first order nodes (suc i)

        I : Inv order nodes (take (suc i) nodes) P
        I = inv_first (suc i) (omega arith)

        root-done : Memᴰ (node_at nodes 0) (take (suc i) nodes)
        root-done = get_or_in_take nodes (suc i) 0 _ (omega arith) R.nonempty

        go : Dec (length n.words ≡ order) → (place order n (children nodes n.words) P).base 0 ≡ P.base 0
        go (yes q) = rw (place-longest order n (children nodes n.words) P q) (bare-root I (next-at (suc i) h) q (node_at nodes 0) root-done R.root)
        go (no q) = rw (place-fewer order n (children nodes n.words) P q) (root_stays I (marked-at (suc i) h q I) (node_at nodes 0) root-done R.root)

    root-base : (i : ℕ) → i < length nodes → (placed_first order nodes (suc i)).base 0 ≡ pos 1
    root-base zero h = root-base-first
    root-base (suc i) h = root-base-next i h (root-base i (omega arith))

    pub placing-head : Head order (node_at nodes 0) (placing order nodes)
    placing-head =
        let I = placing_inv in
        let a = I.lies (node_at nodes 0) (root_in R) root-fewer in
        let last : suc (length nodes - 1) ≡ length nodes = omega (arith, R.nonempty) in
        let b : (placing order nodes).base 0 ≡ pos 1 = rw (last, placed_first_all) at (root-base (length nodes - 1) (omega (arith, R.nonempty))) in
        let one : a.d ≡ 1 = cc (a.base, b, I.root, R.root) in
        record { base_0 = b; check_0 = I.head; base_1 = rw one at a.marker_base_lem; check_1 = rw one at a.marker_check_lem }
