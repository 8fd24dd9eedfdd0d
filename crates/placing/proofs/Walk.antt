-- What a correct layout of a trie is, told by what a walk can see of it; that it suffices for walking; and that the placing rule's array is one.
-- Assumes nothing.
use Rattle.std.specs.declared.option.Option.{Option}
use Rattle.std.specs.declared.option.Option.TheVariants.{Some, None}
use Rattle.std.proofs.lemmas.Option.{none-some}
use mathlib.Core.Path.{◌≡◌, refl, sym, ap, ap₂, ◌∙◌}
use mathlib.Core.Logic.{◌≢◌}
use mathlib.Core.Bool.{Bool, true, false, false≢true}
use mathlib.Core.List.{List, [], ◌∷◌, Memᴰ, reverse, reverse_aux}
use Prim.Native.Nat.{ℕ, suc, ◌≤◌, ◌<◌}
use native.Mathlib.Omega.{arith}
use native.Mathlib.Decide.{ℕ_discrete}
use borrow.Author.Tests.{lt-ltb, le-leb}
use lib.IntN.{ℤ, pos, negsuc, nat_abs, pos-ne-negsuc}
use lib.ListN.{length}
use Rattle.integer.proofs.Arithmetic.{zarith}
use Rattle.backoff.specs.Words.{is_word}
use Rattle.backoff.specs.Store.{Look, absent}
use Rattle.markers.specs.Markers.{Marker}
use Rattle.markers.specs.Markers.{Sound, Broken}
use Rattle.markers.specs.Markers.{marker_of, look_marker}
use Rattle.child_slots.specs.Children.{free_check, child_slot, owned_by, base_at, check_at, child_at}
use Rattle.child_slots.proofs.Children.{child-absent, owned_none, child_told, child_shown, child-word, negative_childless}
use Rattle.double_array.specs.DoubleArray.{kept_marker, own_marker, marker_at, past, down_to, look_from, order_in}
use Rattle.double_array.proofs.DoubleArray.{marker_own, marker_kept}
use Rattle.placing.specs.Trie.{Node, children, find_node, Ready}
use Rattle.placing.specs.Placing.{Placed, placing, slots}
use Rattle.placing.proofs.Trie.{child-found, found-child, found_in, root-found, found_word, child-short, node_bare, absent-below}
use Rattle.placing.proofs.Placing.{Lies, Inv, marker_used, only-children, below_top, slot-below-top}
use Rattle.placing.proofs.NodeByNode.{placing_inv}
use Rattle.placing.proofs.Slots.{length-slots, get_or-slots}

-- what a node's marker says, and what a walk that ends at a node, or at none, comes to
abbrev pub node_marker : Node → Marker
node_marker m = marker_of (negsuc m.cost) m.load

abbrev pub look_node : Option Node → Look
look_node None = absent
look_node (Some m) = look_marker (node_marker m)

-- a child in slot t, where there is a node for it
abbrev pub child_if : Option Node → ℕ → Option ℕ
child_if None t = None
child_if (Some m) t = Some t

-- BASE and CHECK hold the nodes, the node of the words `us` in slot `slot us`
pub record LaidOut (nodes : List Node) (slot : List ℕ → ℕ) (base check : List ℤ) : Type 0 where
  pub root : slot [] ≡ 0
  pub marker : (us : List ℕ) (m : Node) → find_node nodes us ≡ Some m → marker_at base check (length us) (slot us) ≡ node_marker m
  pub child : (us : List ℕ) (m : Node) → find_node nodes us ≡ Some m → (w : ℕ) → child_at base check (slot us) w ≡ child_if (find_node nodes (w ∷ us)) (slot (w ∷ us))

-- ---- a layout suffices for walking

past-sound : (k : Marker) → k ≢ Broken → (rest : Look) → past k rest ≡ rest
past-sound (Sound p b e f) h rest = refl
past-sound Broken h rest = absurd (h refl)

module _ {order : ℕ} {nodes : List Node} {slot : List ℕ → ℕ} {base check : List ℤ} (R : Ready order nodes) (L : LaidOut nodes slot base check)
    (sound : (m : Node) → Memᴰ m nodes → node_marker m ≢ Broken) where
  -- the walk from a node
  look-from : (q us : List ℕ) (m : Node) → find_node nodes us ≡ Some m → look_from base check (length us) (slot us) q ≡ look_node (find_node nodes (reverse_aux q us))
  unfolding look_from
  look-from [] us m e = rw (L.marker us m e, e)
  look-from (w ∷ q) us m e =
      rw (L.marker us m e)
      (past-sound (node_marker m) (sound m (found_in nodes us m e).0) (down_to (child_at base check (slot us) w) (λ (t : ℕ). look_from base check (suc (length us)) t q))
      ∙ go (λ k h. look-from q (w ∷ us) k h) (find_node nodes (w ∷ us)) refl)
    where
      there : Look
      there = look_node (find_node nodes (reverse_aux q (w ∷ us)))

      go : ((k : Node) → find_node nodes (w ∷ us) ≡ Some k → look_from base check (suc (length us)) (slot (w ∷ us)) q ≡ there)
          → (o : Option Node) → find_node nodes (w ∷ us) ≡ o → down_to (child_at base check (slot us) w) (λ (t : ℕ). look_from base check (suc (length us)) t q) ≡ there
      go rec None h = rw (L.child us m e w, h, absent-below R q (w ∷ us) h)
      go rec (Some k) h = rw (L.child us m e w, h) (rec k h)

  -- a walk from the root over words, newest first, comes to the node of those words
  look_laid_out : (l : List ℕ) → look_from base check 0 0 l ≡ look_node (find_node nodes (reverse l))
  look_laid_out l =
      let r = root-found R in
      rw L.root at (look-from l [] r.0 r.1)

-- ---- what a node's BASE says of its marker and its children

module _ (base check : List ℤ) (s : ℕ) {d : ℕ} (b : base_at base check s ≡ pos d) (p : 1 ≤ d) where
  marker_read : d < length check → kept_marker base check s ≡ marker_of (check_at base check d) (base_at base check d)
  unfolding kept_marker
  marker_read l = rw (b, le-leb 1 d p, lt-ltb d (length check) l)

  -- a slot on either side of d, as the definition of a child names it
  child-place : (behind : Bool) (w : ℕ) → child_slot behind (nat_abs (base_at base check s)) w ≡ child_slot behind d w
  child-place behind w = ap (λ (z : ℤ). child_slot behind (nat_abs z) w) b

  child_there : (behind : Bool) (w : ℕ) → is_word w ≡ true → 1 ≤ child_slot behind d w → child_slot behind d w < length check → check_at base check (child_slot behind d w) ≡ pos s
      → (behind ≡ true → owned_by check s (child_slot false d w) ≡ None) → child_at base check s w ≡ Some (child_slot behind d w)
  child_there behind w e k l q f =
      child_shown base check s w (child_slot behind d w) (record {
        word = e;
        some-base = omega zarith;
        behind = behind;
        slot = child-place behind w;
        positive = k;
        inside = l;
        owner = q;
        first = λ z. ap (owned_by check s) (child-place false w) ∙ f z;
      })

  child-none : (w : ℕ) → ((behind : Bool) → 1 ≤ w → 1 ≤ child_slot behind d w → child_slot behind d w < length check → check_at base check (child_slot behind d w) ≡ pos s → ⊥) → child_at base check s w ≡ None
  child-none w h =
      child-absent base check s w
      (λ t e.
      let c = child_told base check s w t e in
      let same = sym (child-place c.behind w) ∙ c.slot in
      h c.behind (child-word base check s w t e) (rw same c.positive) (rw same c.inside) (rw same c.owner))

-- ---- the placing rule's array

module _ {order : ℕ} {nodes : List Node} {P : Placed} (R : Ready order nodes) (I : Inv order nodes nodes P) {N : ℕ} (room : P.top ≤ N) where
  abbrev B : List ℤ
  B = slots N P.base

  abbrev C : List ℤ
  C = slots N P.check

  check-read : (t : ℕ) → P.check t ≢ free_check → (t < length C) × (check_at B C t ≡ P.check t)
  check-read t h =
      let l : t < P.top = below_top I t h in
      (omega (arith, length-slots N P.check), get_or-slots N P.check t free_check (omega arith))

  order-read : order_in C ≡ order
  unfolding order_in
  order-read = rw ((check-read 0 (λ z. pos-ne-negsuc _ _ (sym I.head ∙ z))).1, I.head) (omega arith)

  -- a node with a marker
  module _ (m : Node) (h : Memᴰ m nodes) (n : length m.words ≢ order) where
    abbrev a : Lies nodes P m
    a = I.lies m h n

    abbrev s : ℕ
    s = P.slot m.words

    base_read : base_at B C s ≡ pos a.d
    base_read = get_or-slots N P.base s (pos 0) (omega (arith, slot-below-top I m.words (I.closed m h))) ∙ a.base

    marker_laid : marker_at B C (length m.words) s ≡ node_marker m
    marker_laid =
        let c = check-read a.d (marker_used I m h n) in
        marker_kept B C (length m.words) s (λ e. n (e ∙ order-read))
        ∙ marker_read B C s base_read a.d_positive c.0
        ∙ ap₂ marker_of (c.1 ∙ a.marker_check_lem) (get_or-slots N P.base a.d (pos 0) (omega (arith, length-slots N P.check)) ∙ a.marker_base_lem)

    -- a slot that the node owns on a side is a child's, and its children lie on that side
    owned : (behind : Bool) (w : ℕ) → 1 ≤ w → 1 ≤ child_slot behind a.d w → child_slot behind a.d w < length C → check_at B C (child_slot behind a.d w) ≡ pos s
        → (behind ≡ a.behind) × Memᴰ w (children nodes m.words)
    owned behind w p l i q =
        only-children I m h n behind w p l (sym (get_or-slots N P.check (child_slot behind a.d w) free_check (omega (arith, length-slots N P.check))) ∙ q)

    child_laid : (w : ℕ) → child_at B C s w ≡ child_if (find_node nodes (w ∷ m.words)) (P.slot (w ∷ m.words))
    child_laid w = go (find_node nodes (w ∷ m.words)) refl
      where
        go : (o : Option Node) → find_node nodes (w ∷ m.words) ≡ o → child_at B C s w ≡ child_if o (P.slot (w ∷ m.words))
        go None e =
            child-none B C s base_read a.d_positive w
            (λ behind p l i q. let k = child-found nodes m.words w (owned behind w p l i q).1 in none-some k.0 (sym e ∙ k.1))
        go (Some k) e =
            let is-child = found-child nodes m.words w k e in
            let q = a.child-check w is-child in
            let c = check-read (child_slot a.behind a.d w) (λ z. pos-ne-negsuc _ _ (sym q ∙ z)) in
            rw (a.child-slot w is-child)
            (child_there B C s base_read a.d_positive a.behind w (found_word R w m.words k e) (a.child-positive w is-child) c.0 (c.1 ∙ q)
            (λ z. owned_none C s (child_slot false a.d w) (λ i r. false≢true ((owned false w (a.child-word w is-child) (omega (arith, a.d_positive)) i r).0 ∙ z))))

  -- a node of n words, which has nothing but its p and no child
  module _ (m : Node) (h : Memᴰ m nodes) (e : length m.words ≡ order) where
    own_read : base_at B C (P.slot m.words) ≡ negsuc m.cost
    own_read = get_or-slots N P.base (P.slot m.words) (pos 0) (omega (arith, slot-below-top I m.words (I.closed m h))) ∙ I.own-base m h e

    own_laid : marker_at B C (length m.words) (P.slot m.words) ≡ node_marker m
    unfolding own_marker
    own_laid =
        marker_own B C (length m.words) (P.slot m.words) (e ∙ sym order-read)
        ∙ ap₂ marker_of own_read (sym (node_bare R m h e))

    own_childless : (w : ℕ) → child_at B C (P.slot m.words) w ≡ child_if (find_node nodes (w ∷ m.words)) (P.slot (w ∷ m.words))
    own_childless w = negative_childless B C (P.slot m.words) own_read w ∙ go (find_node nodes (w ∷ m.words)) refl
      where
        go : (o : Option Node) → find_node nodes (w ∷ m.words) ≡ o → None ≡ child_if o (P.slot (w ∷ m.words))
        go None q = refl
        go (Some k) q = absurd (omega (arith, child-short R m.words w (found-child nodes m.words w k q)))

  -- either
  node_laid : (m : Node) (h : Memᴰ m nodes) → (marker_at B C (length m.words) (P.slot m.words) ≡ node_marker m)
      × ((w : ℕ) → child_at B C (P.slot m.words) w ≡ child_if (find_node nodes (w ∷ m.words)) (P.slot (w ∷ m.words)))
  node_laid m h = go (ℕ_discrete (length m.words) order)
    where
      go : Dec (length m.words ≡ order) → (marker_at B C (length m.words) (P.slot m.words) ≡ node_marker m)
          × ((w : ℕ) → child_at B C (P.slot m.words) w ≡ child_if (find_node nodes (w ∷ m.words)) (P.slot (w ∷ m.words)))
      go (yes e) = (own_laid m h e, own_childless m h e)
      go (no n) = (marker_laid m h n, child_laid m h n)

  inv_laid_out : LaidOut nodes P.slot (slots N P.base) (slots N P.check)
  inv_laid_out = record {
    root = I.root;
    marker = λ us m e.
        let f = found_in nodes us m e in
        rw f.1 at (node_laid m f.0).0;
    child = λ us m e w.
        let f = found_in nodes us m e in
        rw f.1 at ((node_laid m f.0).1 w);
  }

-- The first N slots of the placed array, N being enough for it, hold the nodes,
pub placing_laid_out : (order : ℕ) {nodes : List Node} → Ready order nodes → (N : ℕ) → (placing order nodes).top ≤ N
    → LaidOut nodes (placing order nodes).slot (slots N (placing order nodes).base) (slots N (placing order nodes).check)
placing_laid_out order {nodes} R N room = inv_laid_out R (placing_inv order nodes R) room

-- so that a walk over any words, newest first, comes to the node of those words where there is one, and reads its own marker.
pub look-placed : (order : ℕ) {nodes : List Node} → Ready order nodes → ((m : Node) → Memᴰ m nodes → node_marker m ≢ Broken) → (N : ℕ) → (placing order nodes).top ≤ N
    → (l : List ℕ) → look_from (slots N (placing order nodes).base) (slots N (placing order nodes).check) 0 0 l ≡ look_node (find_node nodes (reverse l))
look-placed order R sound N room = look_laid_out R (placing_laid_out order R N room) sound
