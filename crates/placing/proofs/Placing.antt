-- The invariant of the placing rule: what holds once some nodes have taken their d, what follows from it, and that one node more keeps it.
-- Assumes nothing.
use mathlib.Core.Path.{◌≡◌, refl, sym, ap, ◌∙◌, subst}
use mathlib.Core.Logic.{◌⊎◌, inl, inr, ◌≢◌}
use mathlib.Core.Bool.{Bool}
use mathlib.Core.List.{List, [], ◌∷◌, ◌++◌, Memᴰ}
use Prim.Native.Nat.{ℕ, suc, ◌≤◌, ◌<◌}
use native.Mathlib.Omega.{arith}
use native.Mathlib.Decide.{ℕ_discrete, dec_lt}
use lib.IntN.{pos, negsuc, pos-ne-negsuc}
use lib.ListN.{length}
use Rattle.backoff.proofs.Words.{same_refl, same_ne}
use Rattle.child_slots.specs.Children.{free_check, child_slot}
use Rattle.child_slots.proofs.Children.{slots_apart, marker_apart}
use Rattle.double_array.specs.DoubleArray.{head_check}
use Rattle.placing.specs.Trie.{Node, children}
use Rattle.placing.specs.Placing.{Placed, update, own, give, settle, without_marker}
use Rattle.placing.proofs.Rooms.{update_same, update_other, Owned, kept, given, own_cases, reach-top, reach-child, Highest, of_before, of_marker, of_child, reach_highest}

-- ---- the slots of nodes once n has taken d: its children's are given, all others kept

module _ (n : Node) (ws : List ℕ) (behind : Bool) (d : ℕ) (P : Placed) where
  pub slot-given : (w : ℕ) (us : List ℕ) → us ≡ n.words → (settle n ws behind d P).slot (w ∷ us) ≡ child_slot behind d w
  unfolding settle give
  slot-given w us e = rw (e, same_refl n.words)

  pub slot_kept : (us : List ℕ) → ((w : ℕ) → us ≢ w ∷ n.words) → (settle n ws behind d P).slot us ≡ P.slot us
  unfolding settle give
  slot_kept [] h = refl
  slot_kept (w ∷ us) h = rw (same_ne us n.words (λ e. h w (ap (λ (vs : List ℕ). w ∷ vs) e)))

-- ---- the invariant

-- the node `us` has a slot: it is the root, or a child of a node that has taken its d
abbrev pub Slotted : List Node → List Node → List ℕ → Type 0
Slotted all done [] = Unit {0}
Slotted all done (w ∷ us) = (m : Node) × Memᴰ m done × (m.words ≡ us) × Memᴰ w (children all us)

-- node m lies as the rule says, with d as its BASE
pub record Lies (all : List Node) (P : Placed) (m : Node) : Type 0 where
  pub d : ℕ
  pub d_positive : 1 ≤ d
  pub base : P.base (P.slot m.words) ≡ pos d
  pub marker_check_lem : P.check d ≡ negsuc m.cost
  pub marker_base_lem : P.base d ≡ m.load
  pub used : m.cost < 2147483647
  pub behind : Bool
  pub child-word : (w : ℕ) → Memᴰ w (children all m.words) → 1 ≤ w
  pub child-positive : (w : ℕ) → Memᴰ w (children all m.words) → 1 ≤ child_slot behind d w
  pub child-slot : (w : ℕ) → Memᴰ w (children all m.words) → P.slot (w ∷ m.words) ≡ child_slot behind d w
  pub child-check : (w : ℕ) → Memᴰ w (children all m.words) → P.check (child_slot behind d w) ≡ pos (P.slot m.words)

-- slot t holds the node `w ∷ m.words`, child of m in slot s
pub record Holds (all done : List Node) (P : Placed) (t s : ℕ) : Type 0 where
  pub m : Node
  pub w : ℕ
  pub is-done : Memᴰ m done
  pub is-child : Memᴰ w (children all m.words)
  pub parent : P.slot m.words ≡ s
  pub here : t ≡ P.slot (w ∷ m.words)

-- what holds once the nodes `done` of all are placed
pub record Inv (order : ℕ) (all done : List Node) (P : Placed) : Type 0 where
  pub head : P.check 0 ≡ head_check order
  pub root : P.slot [] ≡ 0
  pub closed : (m : Node) → Memᴰ m done → Slotted all done m.words
  pub short : (us : List ℕ) (w : ℕ) → Memᴰ w (children all us) → length us < order
  pub lies : (m : Node) → Memᴰ m done → length m.words ≢ order → Lies all P m
  pub own-base : (m : Node) → Memᴰ m done → length m.words ≡ order → P.base (P.slot m.words) ≡ negsuc m.cost
  pub holds : (t s : ℕ) → 1 ≤ t → P.check t ≡ pos s → Holds all done P t s
  pub past : (t : ℕ) → P.top ≤ t → P.check t ≡ free_check
  pub last : (t : ℕ) → P.top ≡ suc t → P.check t ≢ free_check
  pub blank : (t : ℕ) → P.check t ≡ free_check → P.base t ≡ pos 0

-- ---- what it says of slots

-- the node `w ∷ us`, child of `us`
pub record ChildLies (all done : List Node) (P : Placed) (w : ℕ) (us : List ℕ) : Type 0 where
  pub positive : 1 ≤ P.slot (w ∷ us)
  pub check : P.check (P.slot (w ∷ us)) ≡ pos (P.slot us)
  pub parent : Slotted all done us

module _ {order : ℕ} {all done : List Node} {P : Placed} (I : Inv order all done P) where
  -- a node with a child lies with a marker
  parent_lies : (m : Node) → Memᴰ m done → (w : ℕ) → Memᴰ w (children all m.words) → Lies all P m
  parent_lies m h w k = I.lies m h (λ e. absurd (omega (arith, I.short m.words w k)))

  child_lies : (w : ℕ) (us : List ℕ) → Slotted all done (w ∷ us) → ChildLies all done P w us
  child_lies w us t = subst (λ (vs : List ℕ). ChildLies all done P w vs) t.2 (of_parent t.0 t.1 (rw t.2 t.3))
    where
      of_parent : (m : Node) → Memᴰ m done → Memᴰ w (children all m.words) → ChildLies all done P w m.words
      of_parent m h k =
          let a = parent_lies m h w k in
          record {
            positive = rw (a.child-slot w k) (a.child-positive w k);
            check = rw (a.child-slot w k) (a.child-check w k);
            parent = I.closed m h;
          }

  -- a node's children lie in different slots
  children-distinct : (u v : ℕ) (us : List ℕ) → Slotted all done (u ∷ us) → Memᴰ v (children all us) → P.slot (u ∷ us) ≡ P.slot (v ∷ us) → u ≡ v
  children-distinct u v us t k e = of_parent t.0 t.1 (rw t.2 t.3) (rw t.2 k) (rw t.2 e)
    where
      of_parent : (m : Node) → Memᴰ m done → Memᴰ u (children all m.words) → Memᴰ v (children all m.words) → P.slot (u ∷ m.words) ≡ P.slot (v ∷ m.words) → u ≡ v
      of_parent m h x y q =
          let a = parent_lies m h u x in
          (slots_apart a.behind a.behind a.d u v (a.child-word u x) (a.child-word v y) (a.child-positive u x) (a.child-positive v y) (sym (a.child-slot u x) ∙ q ∙ a.child-slot v y)).1

  -- two nodes with a slot lie in different slots
  slots-distinct : (us vs : List ℕ) → Slotted all done us → Slotted all done vs → P.slot us ≡ P.slot vs → us ≡ vs
  slots-distinct [] [] p q e = refl
  slots-distinct [] (v ∷ vs) p q e = absurd (omega (arith, I.root, (child_lies v vs q).positive))
  slots-distinct (u ∷ us) [] p q e = absurd (omega (arith, I.root, (child_lies u us p).positive))
  slots-distinct (u ∷ us) (v ∷ vs) p q e =
      let k = child_lies u us p in
      let l = child_lies v vs q in
      let parents : P.slot us ≡ P.slot vs = cc in
      let rest : us ≡ vs = slots-distinct us vs k.parent l.parent parents in
      let word : u ≡ v = children-distinct u v us p (rw rest q.3) (e ∙ ap (λ (l : List ℕ). P.slot (v ∷ l)) (sym rest)) in
      λ i. word i ∷ rest i

  -- no node lies in a slot whose CHECK is negative: a free slot, or a marker
  pub not_negative : (us : List ℕ) → Slotted all done us → (t c : ℕ) → P.check t ≡ negsuc c → P.slot us ≢ t
  not_negative [] p t c n e = pos-ne-negsuc _ _ (sym I.head ∙ ap P.check (sym I.root ∙ e) ∙ n)
  not_negative (u ∷ us) p t c n e = pos-ne-negsuc _ _ (sym (child_lies u us p).check ∙ ap P.check e ∙ n)

  -- a marker's slot is not free
  pub marker_used : (m : Node) (h : Memᴰ m done) (n : length m.words ≢ order) → P.check (I.lies m h n).d ≢ free_check
  marker_used m h n e =
      let a = I.lies m h n in
      let q : m.cost ≡ 2147483647 = cc in
      absurd (omega (arith, a.used))

  -- a child is found only where it is listed, and on the side where it lies
  pub only-children : (m : Node) (h : Memᴰ m done) (n : length m.words ≢ order) (behind : Bool) (w : ℕ) → 1 ≤ w → 1 ≤ child_slot behind (I.lies m h n).d w
      → P.check (child_slot behind (I.lies m h n).d w) ≡ pos (P.slot m.words) → (behind ≡ (I.lies m h n).behind) × Memᴰ w (children all m.words)
  only-children m h n behind w p l e =
      let a = I.lies m h n in
      let o = I.holds (child_slot behind a.d w) (P.slot m.words) l e in
      let same : o.m.words ≡ m.words = slots-distinct o.m.words m.words (I.closed o.m o.is-done) (I.closed m h) o.parent in
      let k : Memᴰ o.w (children all m.words) = subst (λ (us : List ℕ). Memᴰ o.w (children all us)) same o.is-child in
      let here : child_slot behind a.d w ≡ child_slot a.behind a.d o.w = o.here ∙ ap (λ (us : List ℕ). P.slot (o.w ∷ us)) same ∙ a.child-slot o.w k in
      let apart = slots_apart behind a.behind a.d w o.w p (a.child-word o.w k) l (a.child-positive o.w k) here in
      (apart.0, subst (λ (x : ℕ). Memᴰ x (children all m.words)) (sym apart.1) k)

  -- a slot that is not free is below the reach
  pub below_top : (t : ℕ) → P.check t ≢ free_check → t < P.top
  below_top t h = go (dec_lt t P.top)
    where
      go : Dec (t < P.top) → t < P.top
      go (yes l) = l
      go (no l) = absurd (h (I.past t (omega arith)))

  pub slot-below-top : (us : List ℕ) → Slotted all done us → P.slot us < P.top
  slot-below-top us p = below_top (P.slot us) (λ e. not_negative us p (P.slot us) 2147483647 e refl)

-- ---- one node more

-- what is asked of the next node n
pub record Next (all done : List Node) (n : Node) : Type 0 where
  pub slotted : Slotted all done n.words
  pub fresh : (m : Node) → Memᴰ m done → m.words ≢ n.words

module _ (done : List Node) (n : Node) where
  n_in : Memᴰ n (done ++ (n ∷ []))
  n_in = mathlib.Core.List.Memᴰ.append_right done (mathlib.Core.List.Memᴰ.head refl)

  by_cases : {X : Node → Type 0} → ((m : Node) → Memᴰ m done → X m) → X n → (m : Node) → Memᴰ m (done ++ (n ∷ [])) → X m
  by_cases {X} f x m h = go (mathlib.Core.List.Memᴰ.append_cases done h)
    where
      go : Memᴰ m done ⊎ Memᴰ m (n ∷ []) → X m
      go (inl k) = f m k
      go (inr k) = subst X (sym (mathlib.Core.List.Memᴰ.eq_of_singleton k)) x

  slotted_more : (all : List Node) (us : List ℕ) → Slotted all done us → Slotted all (done ++ (n ∷ [])) us
  slotted_more all [] p = p
  slotted_more all (w ∷ us) p = (p.0, mathlib.Core.List.Memᴰ.append_left (n ∷ []) p.1, p.2, p.3)

-- ---- it takes its d

-- what is asked of its d and of the side on which its children lie
pub record NextMarked (order : ℕ) (all done : List Node) (P : Placed) (n : Node) (behind : Bool) (d : ℕ) : Type 0 where
  pub next : Next all done n
  pub fewer : length n.words ≢ order
  pub used : n.cost < 2147483647
  pub positive : (w : ℕ) → Memᴰ w (children all n.words) → 1 ≤ w
  pub d_positive : 1 ≤ d
  pub d_free : P.check d ≡ free_check
  pub children-positive : (w : ℕ) → Memᴰ w (children all n.words) → 1 ≤ child_slot behind d w
  pub children-free : (w : ℕ) → Memᴰ w (children all n.words) → P.check (child_slot behind d w) ≡ free_check

module _ {order : ℕ} {all done : List Node} {P : Placed} (I : Inv order all done P) {n : Node} {behind : Bool} {d : ℕ} (N : NextMarked order all done P n behind d) where
  abbrev ws : List ℕ
  ws = children all n.words

  abbrev s : ℕ
  s = P.slot n.words

  abbrev P' : Placed
  P' = settle n ws behind d P

  -- slots
  stays : (us : List ℕ) → Slotted all done us → P'.slot us ≡ P.slot us
  stays us p = slot_kept n ws behind d P us (λ w e. other w us e p)
    where
      other : (w : ℕ) (us : List ℕ) → us ≡ w ∷ n.words → Slotted all done us → ⊥
      other w us e p = let q = subst (Slotted all done) e p in N.next.fresh q.0 q.1 q.2

  own_stays : P'.slot n.words ≡ s
  own_stays = stays n.words N.next.slotted

  -- CHECK
  check_d : P'.check d ≡ negsuc n.cost
  unfolding settle
  check_d = update_same (own behind d s ws P.check) d (negsuc n.cost) d refl

  check-other : (t : ℕ) → t ≢ d → P'.check t ≡ own behind d s ws P.check t
  unfolding settle
  check-other t h = update_other (own behind d s ws P.check) d (negsuc n.cost) t h

  check_stays : (t : ℕ) → P.check t ≢ free_check → P'.check t ≡ P.check t
  check_stays t h = check-other t (λ e. h (ap P.check e ∙ N.d_free)) ∙ go (own_cases behind d s ws P.check t)
    where
      go : Owned behind d s ws t (P.check t) (own behind d s ws P.check t) → own behind d s ws P.check t ≡ P.check t
      go (kept q r) = q
      go (given w m p q) = absurd (h (ap P.check p ∙ N.children-free w m))

  check-child : (w : ℕ) → Memᴰ w ws → P'.check (child_slot behind d w) ≡ pos s
  check-child w h = check-other (child_slot behind d w) (λ e. marker_apart behind d w N.d_positive (N.positive w h) (sym e)) ∙ go (own_cases behind d s ws P.check (child_slot behind d w))
    where
      go : Owned behind d s ws (child_slot behind d w) (P.check (child_slot behind d w)) (own behind d s ws P.check (child_slot behind d w)) → own behind d s ws P.check (child_slot behind d w) ≡ pos s
      go (kept q r) = absurd (r w h refl)
      go (given v m p q) = q

  -- BASE
  pub base_n : P'.base s ≡ pos d
  unfolding settle
  base_n = update_same (update P.base d n.load) s (pos d) s refl

  base-other : (t : ℕ) → t ≢ s → t ≢ d → P'.base t ≡ P.base t
  unfolding settle
  base-other t h k = update_other (update P.base d n.load) s (pos d) t h ∙ update_other P.base d n.load t k

  base_d : P'.base d ≡ n.load
  unfolding settle
  base_d =
      update_other (update P.base d n.load) s (pos d) d (λ e. not_negative I n.words N.next.slotted d 2147483647 N.d_free (sym e))
      ∙ update_same P.base d n.load d refl

  -- the BASE of a node that was done stays
  base_stays : (m : Node) → Memᴰ m done → P'.base (P'.slot m.words) ≡ P.base (P.slot m.words)
  base_stays m h =
      let p : Slotted all done m.words = I.closed m h in
      ap P'.base (stays m.words p)
      ∙ base-other (P.slot m.words) (λ e. N.next.fresh m h (slots-distinct I m.words n.words p N.next.slotted e))
      (not_negative I m.words p d 2147483647 N.d_free)

  pub root_stays : (r : Node) → Memᴰ r done → r.words ≡ [] → P'.base 0 ≡ P.base 0
  root_stays r h e = cc (base_stays r h, stays r.words (I.closed r h), I.root)

  -- the invariant, part by part
  n_lies : Lies all P' n
  n_lies = record {
    d = d;
    d_positive = N.d_positive;
    base = rw own_stays base_n;
    marker_check_lem = check_d;
    marker_base_lem = base_d;
    used = N.used;
    behind = behind;
    child-word = N.positive;
    child-positive = N.children-positive;
    child-slot = λ w h. slot-given n ws behind d P w n.words refl;
    child-check = λ w h. check-child w h ∙ ap pos (sym own_stays);
  }

  done_lies : (m : Node) → Memᴰ m done → length m.words ≢ order → Lies all P' m
  done_lies m h k =
      let a = I.lies m h k in
      let off-s : a.d ≢ s = λ e. not_negative I n.words N.next.slotted a.d m.cost a.marker_check_lem (sym e) in
      let off-d : a.d ≢ d = λ e. marker_used I m h k (ap P.check e ∙ N.d_free) in
      record {
        d = a.d;
        d_positive = a.d_positive;
        base = base_stays m h ∙ a.base;
        marker_check_lem = check_stays a.d (marker_used I m h k) ∙ a.marker_check_lem;
        marker_base_lem = base-other a.d off-s off-d ∙ a.marker_base_lem;
        used = a.used;
        behind = a.behind;
        child-word = a.child-word;
        child-positive = a.child-positive;
        child-slot = λ w c. stays (w ∷ m.words) (m, h, refl, c) ∙ a.child-slot w c;
        child-check = λ w c.
            check_stays (child_slot a.behind a.d w) (λ e. pos-ne-negsuc _ _ (sym (a.child-check w c) ∙ e))
            ∙ a.child-check w c ∙ ap pos (sym (stays m.words (I.closed m h)));
      }

  holds_more : (t u : ℕ) → 1 ≤ t → P'.check t ≡ pos u → Holds all (done ++ (n ∷ [])) P' t u
  holds_more t u l e = go (ℕ_discrete t d)
    where
      old : Holds all done P t u → Holds all (done ++ (n ∷ [])) P' t u
      old o = record {
        m = o.m;
        w = o.w;
        is-done = mathlib.Core.List.Memᴰ.append_left (n ∷ []) o.is-done;
        is-child = o.is-child;
        parent = stays o.m.words (I.closed o.m o.is-done) ∙ o.parent;
        here = o.here ∙ sym (stays (o.w ∷ o.m.words) (o.m, o.is-done, refl, o.is-child));
      }

      cases : own behind d s ws P.check t ≡ pos u → Owned behind d s ws t (P.check t) (own behind d s ws P.check t) → Holds all (done ++ (n ∷ [])) P' t u
      cases q (kept r f) = old (I.holds t u l (sym r ∙ q))
      cases q (given w h p r) = record {
        m = n;
        w = w;
        is-done = n_in done n;
        is-child = h;
        parent = cc own_stays;
        here = p ∙ sym (slot-given n ws behind d P w n.words refl);
      }

      go : Dec (t ≡ d) → Holds all (done ++ (n ∷ [])) P' t u
      go (yes q) = absurd (pos-ne-negsuc _ _ (sym e ∙ ap P'.check q ∙ check_d))
      go (no q) = cases (sym (check-other t q) ∙ e) (own_cases behind d s ws P.check t)

  past_more : (t : ℕ) → P'.top ≤ t → P'.check t ≡ free_check
  unfolding settle
  past_more t l = check-other t (λ e. absurd (omega (arith, (reach-top P.top behind d ws).1))) ∙ go (own_cases behind d s ws P.check t)
    where
      go : Owned behind d s ws t (P.check t) (own behind d s ws P.check t) → own behind d s ws P.check t ≡ free_check
      go (kept q f) = q ∙ I.past t (omega (arith, (reach-top P.top behind d ws).0))
      go (given w h p q) = absurd (omega (arith, reach-child P.top behind d ws w h))

  last_more : (t : ℕ) → P'.top ≡ suc t → P'.check t ≢ free_check
  unfolding settle
  last_more t e = go (reach_highest P.top behind d ws t e)
    where
      go : Highest P.top behind d ws t → P'.check t ≢ free_check
      go (of_before q) z = I.last t q (sym (check_stays t (I.last t q)) ∙ z)
      go (of_marker q) z =
          let free : negsuc n.cost ≡ free_check = sym check_d ∙ ap P'.check (sym q) ∙ z in
          let c : n.cost ≡ 2147483647 = cc in
          absurd (omega (arith, N.used))
      go (of_child w h q) z = pos-ne-negsuc _ _ (sym (check-child w h) ∙ ap P'.check (sym q) ∙ z)

  -- a free slot was free, and is no node's
  blank-more : (t : ℕ) → P'.check t ≡ free_check → P'.base t ≡ pos 0
  blank-more t e = go (ℕ_discrete t d)
    where
      cases : t ≢ d → own behind d s ws P.check t ≡ free_check → Owned behind d s ws t (P.check t) (own behind d s ws P.check t) → P'.base t ≡ pos 0
      cases q f (kept r u) =
          let free : P.check t ≡ free_check = sym r ∙ f in
          base-other t (λ z. not_negative I n.words N.next.slotted t 2147483647 free (sym z)) q ∙ I.blank t free
      cases q f (given w h p r) = absurd (pos-ne-negsuc _ _ (sym r ∙ f))

      go : Dec (t ≡ d) → P'.base t ≡ pos 0
      go (yes q) =
          let z : n.cost ≡ 2147483647 = cc check_d in
          absurd (omega (arith, N.used))
      go (no q) = cases q (sym (check-other t q) ∙ e) (own_cases behind d s ws P.check t)

  pub settle_keeps : Inv order all (done ++ (n ∷ [])) (settle n (children all n.words) behind d P)
  settle_keeps = record {
    head = check_stays 0 (λ e. pos-ne-negsuc _ _ (sym I.head ∙ e)) ∙ I.head;
    root = stays [] tt ∙ I.root;
    closed = λ m h. slotted_more done n all m.words (by_cases done n {X = λ (k : Node). Slotted all done k.words} I.closed N.next.slotted m h);
    short = I.short;
    lies = by_cases done n {X = λ (m : Node). length m.words ≢ order → Lies all P' m} done_lies (λ e. n_lies);
    own-base = by_cases done n {X = λ (m : Node). length m.words ≡ order → P'.base (P'.slot m.words) ≡ negsuc m.cost} (λ m h e. base_stays m h ∙ I.own-base m h e) (λ e. absurd (N.fewer e));
    holds = holds_more;
    past = past_more;
    last = last_more;
    blank = blank-more;
  }

-- ---- or it has n words and takes none

module _ {order : ℕ} {all done : List Node} {P : Placed} (I : Inv order all done P) {n : Node} (N : Next all done n) (longest : length n.words ≡ order) where
  abbrev bare : Placed
  bare = without_marker n P

  -- BASE of other nodes, and of slots whose CHECK is negative, stays
  bare_stays : (m : Node) → Memᴰ m done → bare.base (P.slot m.words) ≡ P.base (P.slot m.words)
  unfolding without_marker
  bare_stays m h =
      update_other P.base (P.slot n.words) (negsuc n.cost) (P.slot m.words)
      (λ e. N.fresh m h (slots-distinct I m.words n.words (I.closed m h) N.slotted e))

  bare-negative : (t c : ℕ) → P.check t ≡ negsuc c → bare.base t ≡ P.base t
  unfolding without_marker
  bare-negative t c e = update_other P.base (P.slot n.words) (negsuc n.cost) t (λ z. not_negative I n.words N.slotted t c e (sym z))

  pub bare-root : (r : Node) → Memᴰ r done → r.words ≡ [] → bare.base 0 ≡ P.base 0
  bare-root r h e = cc (bare_stays r h, I.root)

  bare_lies : (m : Node) → Memᴰ m done → length m.words ≢ order → Lies all bare m
  unfolding without_marker
  bare_lies m h k =
      let a = I.lies m h k in
      record {
        d = a.d;
        d_positive = a.d_positive;
        base = bare_stays m h ∙ a.base;
        marker_check_lem = a.marker_check_lem;
        marker_base_lem = bare-negative a.d m.cost a.marker_check_lem ∙ a.marker_base_lem;
        used = a.used;
        behind = a.behind;
        child-word = a.child-word;
        child-positive = a.child-positive;
        child-slot = a.child-slot;
        child-check = a.child-check;
      }

  bare-holds : (t u : ℕ) → 1 ≤ t → bare.check t ≡ pos u → Holds all (done ++ (n ∷ [])) bare t u
  unfolding without_marker
  bare-holds t u l e =
      let o = I.holds t u l e in
      record { m = o.m; w = o.w; is-done = mathlib.Core.List.Memᴰ.append_left (n ∷ []) o.is-done; is-child = o.is-child; parent = o.parent; here = o.here }

  pub bare_keeps : Inv order all (done ++ (n ∷ [])) (without_marker n P)
  unfolding without_marker
  bare_keeps = record {
    head = I.head;
    root = I.root;
    closed = λ m h. slotted_more done n all m.words (by_cases done n {X = λ (k : Node). Slotted all done k.words} I.closed N.slotted m h);
    short = I.short;
    lies = by_cases done n {X = λ (m : Node). length m.words ≢ order → Lies all bare m} bare_lies (λ e. absurd (e longest));
    own-base = by_cases done n {X = λ (m : Node). length m.words ≡ order → bare.base (P.slot m.words) ≡ negsuc m.cost} (λ m h e. bare_stays m h ∙ I.own-base m h e)
        (λ e. update_same P.base (P.slot n.words) (negsuc n.cost) (P.slot n.words) refl);
    holds = bare-holds;
    past = I.past;
    last = I.last;
    blank = λ t e. bare-negative t 2147483647 e ∙ I.blank t e;
  }
