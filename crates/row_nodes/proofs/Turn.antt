-- One node's turn: what the slices hold once it has taken its d. Assumes nothing.
use mathlib.Core.Path.{◌≡◌, refl, sym, ap, ◌∙◌, subst, transport}
use mathlib.Core.Logic.{◌⊎◌, inl, inr, ◌≢◌, ⊎_elim}
use mathlib.Core.Bool.{Bool, true, false}
use mathlib.Core.List.{List, [], ◌∷◌, tail-eq_of_cons-eq, Memᴰ}
use Prim.Native.Nat.{ℕ, suc, ◌+◌, ◌*◌, ◌-◌, ◌≤◌, ◌<◌, min}
use native.Mathlib.Omega.{arith}
use native.Mathlib.Numerals.{add-one}
use lib.Dec.{ltb, lit<}
use lib.IntN.{ℤ, pos, negsuc}
use lib.ListN.{length, get_or, take, drop, length-drop}
use lib.Seq.{length-take-le}
use Rattle.integer.proofs.Arithmetic.{zarith, add}
use Rattle.integer.proofs.Ranges.{lt_or_ge, between-low}
use Rattle.backoff.specs.Refusal.{Accepted}
use Rattle.backoff.specs.Limits.{least_probability}
use Rattle.backoff.specs.Words.{radix, key}
use Rattle.backoff.specs.Model.{in_probability}
use Rattle.rows.specs.Table.{rows_of, field, probability_at, backoff_at, length_of, order_of, word_of, words, without_first}
use Rattle.rows.specs.Keys.{row_key}
use Rattle.rows.proofs.Table.{row_in, words-length}
use Rattle.rows.proofs.Good.{ascend-key}
use Rattle.list.specs.Check.{verdict}
use Rattle.list.specs.ListModel.{extended_in, continued_in}
use Rattle.list.proofs.Check.{accepted-good, accepted-row}
use Rattle.extensions.specs.Stretch.{Stretch}
use Rattle.extensions.proofs.Stretch.{stretch-extended}
use Rattle.markers.specs.Markers.{marker_check, marker_base}
use Rattle.child_slots.specs.Children.{child_slot}
use Rattle.placing.specs.Trie.{Node, children, node_at}
use Rattle.placing.specs.Placing.{Placed, is_free, all_open, first_fit, update, own, top_with, settle, place_at, with_marker, without_marker, place_all, unplaced}
use Rattle.placing.proofs.Trie.{child-positive}
use Rattle.placing.proofs.FirstFit.{is_free-no, side_at, fit_any_top}
use Rattle.placing.proofs.Placing.{Inv, Next, slot-given, slot_kept, slot-below-top, not_negative}
use Rattle.placing.proofs.NodeByNode.{place-longest, place-fewer, placed_first_suc, next-at, inv_first}
use Rattle.free_slots.specs.Chain.{is_link, Linked, Held}
use Rattle.free_slots.proofs.Chain.{linked-base-length, linked-check-length}
use Rattle.free_slots.proofs.Following.{links-run_through_the_free_slots}
use Rattle.first_fit.specs.Steps.{oldest_of, Rising, fit_of, side_of, Settles, Given, NodePlaced}
use Rattle.first_fit.proofs.OldestWords.{oldest_in}
use Rattle.row_nodes.specs.ListTrie.{node_of, root_of, nodes_of, RowsBelow}
use Rattle.row_nodes.specs.Steps.{placed_nodes, Filled, Tried, TriedTop}
use Rattle.backoff.specs.declared.Reason.{Reason}
use Rattle.backoff.specs.declared.Reason.TheVariants.{NoRoom}
use Rattle.std.specs.declared.result.Result.{Result}
use Rattle.std.specs.declared.result.Result.TheVariants.{Ok, Err}
use Rattle.std.specs.Prelude.{MatchResult}
use Rattle.row_nodes.proofs.ListTrie.{length-nodes_of, node_at-root, node_at-row, root-words, row_words_lem, one_word, row_cons, more-words, nodes_ready, row-check, children-stretch, children-root, middle_field}
use Rattle.row_nodes.proofs.Parts.{part_rows, count-rows, oldest_rows, back, length_back, back_inside, back-before, back-after}

-- rows from to from + n − 1 are the children of the node `us`
record Children (t : List ℤ) (us : List ℕ) (from n : ℕ) : Type 0 where
  within : from + n ≤ rows_of t
  inside : (j : ℕ) → from ≤ j → j < from + n → without_first t j ≡ us
  only : (j : ℕ) → j < rows_of t → without_first t j ≡ us → (from ≤ j) × (j < from + n)

row-children : (t : List ℤ) (i from to : ℕ) → Stretch t i from to → Children t (words t i) from (to - from)
row-children t i from to s = record {
  within = omega (arith, s.order, s.within);
  inside = λ j l m. s.inside j l (omega (arith, s.order));
  only = λ j l e. let z = s.only j l e in omega (arith, s.order);
}

root-children : (t : List ℤ) → verdict t ≡ Accepted → (k : ℕ) → RowsBelow t 2 k → Children t [] 0 k
root-children t a k o = record {
  within = omega (arith, o.within);
  inside = λ j l m. one_word t j (omega (arith, o.fewer j (omega arith)));
  only = λ j l e. (omega arith, ⊎_elim (λ m. omega arith) (λ m. absurd (more-words t a j l (o.more j m l) e)) (lt_or_ge j k));
}

module _ {t : List ℤ} {N : ℕ} {P : Placed} {B C : List ℤ} {W : List ℕ} (F : Filled t N P B C W) where
  pub filled-base : length B ≡ N
  filled-base = linked-base-length F.linked

  pub filled-check : length C ≡ N
  filled-check = linked-check-length F.linked

  pub filled-here : Filled t (length C) P B C W
  filled-here = subst (λ (n : ℕ). Filled t n P B C W) (sym filled-check) F

-- a row's CHECK is not a link
mark-apart : (t : List ℤ) → verdict t ≡ Accepted → (i : ℕ) → i < rows_of t → is_link (marker_check (probability_at t i)) ≡ false
unfolding in_probability
mark-apart t a i l = apart (probability_at t i) (accepted-row t a i l).fields.probability
  where
    apart : (p : ℤ) → in_probability p ≡ true → is_link (marker_check p) ≡ false
    apart p h = let low = between-low least_probability (pos 0) p h in omega (zarith, add p (negsuc 0))

-- the invariant of the placing rule, before the turn of node n
list_inv : (t : List ℤ) → verdict t ≡ Accepted → (n : ℕ) → n ≤ length (nodes_of t) → Inv (order_of t) (nodes_of t) (take n (nodes_of t)) (placed_nodes t n)
list_inv t a = inv_first (order_of t) (nodes_of t) (nodes_ready t a)

module _ (t : List ℤ) (a : verdict t ≡ Accepted) {N n : ℕ} (h : n < length (nodes_of t)) {B C : List ℤ} {W : List ℕ} (F : Filled t N (placed_nodes t n) B C W) where
  abbrev m : Node
  m = node_at (nodes_of t) n

  abbrev P : Placed
  P = placed_nodes t n

  abbrev ws : List ℕ
  ws = children (nodes_of t) m.words

  I : Inv (order_of t) (nodes_of t) (take n (nodes_of t)) P
  I = list_inv t a n (omega arith)

  next : Next (nodes_of t) (take n (nodes_of t)) m
  next = next-at (order_of t) (nodes_of t) (nodes_ready t a) n h

  -- the node's slot: it is one of the slots, and taken
  module _ {s : ℕ} (e : s ≡ P.slot m.words) where
    slot-inside : s < N
    slot-inside = omega (arith, slot-below-top I m.words next.slotted, F.room)

    slot-taken : is_free (P.check s) ≡ false
    slot-taken = is_free-no (P.check s) (λ z. not_negative I m.words next.slotted s 2147483647 z (sym e))

    slot_held : Held B s
    slot_held = record { few = omega (arith, filled-base F, F.size); inside = omega (arith, filled-base F, slot-inside) }

  -- the children's words: none is 0, and they rise as the rows' keys do
  module _ {rows : List ℤ} (words_are : oldest_of rows ≡ ws) (from : ℕ) (S : Children t m.words from (rows_of rows)) (fields : (j : ℕ) → j < rows_of rows → field rows j 1 ≡ field t (from + j) 1) where
    rows_rise : Rising rows
    unfolding row_key key
    rows_rise = record {
      positive = λ k l. child-positive (nodes_ready t a) m.words (word_of (field rows k 1)) (subst (Memᴰ (word_of (field rows k 1))) words_are (oldest_in rows k l));
      rising = λ j k l h. omega (arith, ascend-key t (rows_of t) (from + j) (from + k) (accepted-good t a) (omega arith) (omega (arith, S.within)), child-key j (omega arith), child-key k h);
    }
      where
        child-key : (j : ℕ) → j < rows_of rows → row_key t (from + j) ≡ word_of (field rows j 1) + radix * key m.words
        child-key j l =
            let inside : from + j < rows_of t = omega (arith, S.within) in
            ap key (row_cons t a (from + j) inside ∙ (λ i. word_of (sym (fields j l) i) ∷ S.inside (from + j) (omega arith) (omega arith) i))

    settles : {s : ℕ} {mark : ℤ} → s ≡ P.slot m.words → is_link mark ≡ false → Settles N P.base P.check B C rows s mark
    settles {s} e q = record {
      linked = F.linked;
      inside = slot-inside e;
      taken = slot-taken e;
      apart = q;
      children = rows_rise;
    }

  next-longest : length m.words ≡ order_of t → placed_nodes t (suc n) ≡ without_marker m P
  next-longest e = placed_first_suc (order_of t) (nodes_of t) n h ∙ place-longest (order_of t) m ws P e

  next-fewer : length m.words ≢ order_of t → placed_nodes t (suc n) ≡ settle m ws (side_at P.check ws (first_fit P.check ws P.top)) (first_fit P.check ws P.top) P
  unfolding with_marker place_at
  next-fewer e = placed_first_suc (order_of t) (nodes_of t) n h ∙ place-fewer (order_of t) m ws P e

  -- ---- a node of fewer words than the order takes its d

  abbrev d : ℕ
  d = first_fit P.check ws P.top

  abbrev side : Bool
  side = side_at P.check ws d

  abbrev P' : Placed
  P' = settle m ws side d P

  module _ {rows : List ℤ} {s : ℕ} {mark load : ℤ} {top r : ℕ} {B' C' : List ℤ} {I₀ I' : List ℕ}
      (fewer : length m.words ≢ order_of t) (words_are : oldest_of rows ≡ ws) (top-is : top ≡ P.top) (slot_is : s ≡ P.slot m.words) (mark-is : mark ≡ negsuc m.cost) (load_is : load ≡ m.load)
      (D : NodePlaced N P.base P.check rows s mark load top I₀ r B' C' I') where
    -- the d found is the rule's
    d_is : fit_of N P.check rows ≡ d
    d_is = rw words_are (fit_any_top P.check ws N P.top (λ u l. I.past u (omega (arith, F.room))) I.past)

    side_is : side_of N P.check rows ≡ side
    side_is = λ i. all_open P.check true (d_is i) (words_are i)

    answer : min r (suc N) ≡ min P'.top (suc N)
    unfolding settle
    answer = D.answer ∙ (λ i. min (top_with (top-is i) (side_is i) (d_is i) (words_are i)) (suc N))

    linked-next : r ≤ N → Linked N P'.base P'.check B' C'
    unfolding settle
    linked-next q =
        transport
        (λ i. Linked N (update (update P.base (d_is i) (load_is i)) (slot_is i) (pos (d_is i))) (update (own (side_is i) (d_is i) (slot_is i) (words_are i) P.check) (d_is i) (mark-is i)) B' C')
        (D.linked q)

    given-next : r ≤ N → Given side d rows I₀ I'
    given-next q = subst (λ (x : ℕ). Given side x rows I₀ I') d_is (subst (λ (b : Bool). Given b (fit_of N P.check rows) rows I₀ I') side_is (D.given q))

    -- the items of the rows: a child's holds its slot, the others are kept
    module _ (from k : ℕ) (S : Children t m.words from k) (part : I₀ ≡ take k (drop from W)) (fields : (j : ℕ) → j < k → field rows j 1 ≡ field t (from + j) 1) where
      fits : from + k ≤ length W
      fits = omega (arith, S.within, F.each)

      module _ (q : r ≤ N) where
        count : length I₀ ≡ k
        count = ap length part ∙ length-take-le k (drop from W) (omega (arith, length-drop from W, fits))

        same : length I' ≡ k
        same = (given-next q).same_length ∙ count

        child-item : (j : ℕ) → j < k → get_or (back from k W I') (from + j) 0 ≡ P'.slot (words t (from + j))
        child-item j l =
            let inside : from + j < rows_of t = omega (arith, S.within) in
            let slot : P'.slot (words t (from + j)) ≡ child_slot side d (word_of (field t (from + j) 1)) =
            ap P'.slot (row_cons t a (from + j) inside) ∙ slot-given m ws side d P (word_of (field t (from + j) 1)) (without_first t (from + j)) (S.inside (from + j) (omega arith) (omega arith)) in
            back_inside from k W I' fits same j l ∙ (given-next q).item j (omega (arith, count)) ∙ ap (λ (z : ℤ). child_slot side d (word_of z)) (fields j l) ∙ sym slot

        kept-item : (j : ℕ) → j < rows_of t → without_first t j ≢ m.words → get_or W j 0 ≡ P'.slot (words t j)
        kept-item j l e = F.item j l ∙ sym (slot_kept m ws side d P (words t j) (λ w z. e (tail-eq_of_cons-eq (sym (row_cons t a j l) ∙ z))))

        item-next : (j : ℕ) → j < rows_of t → get_or (back from k W I') j 0 ≡ P'.slot (words t j)
        item-next j l = go (lt_or_ge j from) (lt_or_ge j (from + k))
          where
            go : (j < from) ⊎ (from ≤ j) → (j < from + k) ⊎ (from + k ≤ j) → get_or (back from k W I') j 0 ≡ P'.slot (words t j)
            go (inl b) c = back-before from k W I' fits same j b ∙ kept-item j l (λ e. absurd (omega (arith, S.only j l e)))
            go (inr b) (inl c) = let e : from + (j - from) ≡ j = omega arith in rw e at (child-item (j - from) (omega arith))
            go (inr b) (inr c) = back-after from k W I' fits same j c ∙ kept-item j l (λ e. absurd (omega (arith, S.only j l e)))

        filled : Filled t N P' B' C' (back from k W I')
        filled = record {
          size = F.size;
          room = omega (arith, answer);
          linked = linked-next q;
          links = links-run_through_the_free_slots (linked-next q);
          each = length_back from k W I' fits same ∙ F.each;
          item = item-next;
        }

      tried : Tried t N (placed_nodes t (suc n)) r B' C' (back from k W I')
      tried = rw (next-fewer fewer) (record { answer = answer; filled = filled })

  -- ---- one of as many holds p − 1 in its own slot

  bare-filled : length m.words ≡ order_of t → {s : ℕ} {mark : ℤ} {B' : List ℤ} → s ≡ P.slot m.words → mark ≡ negsuc m.cost
      → Linked N (update P.base s mark) P.check B' C → Filled t N (placed_nodes t (suc n)) B' C W
  unfolding without_marker
  bare-filled longest {B' = B'} slot_is mark-is L =
      let bare : Linked N (update P.base (P.slot m.words) (negsuc m.cost)) P.check B' C = transport (λ i. Linked N (update P.base (slot_is i) (mark-is i)) P.check B' C) L in
      rw (next-longest longest) (record { size = F.size; room = F.room; linked = bare; links = links-run_through_the_free_slots bare; each = F.each; item = F.item })

  bare-top : length m.words ≡ order_of t → (placed_nodes t (suc n)).top ≡ P.top
  unfolding without_marker
  bare-top longest = rw (next-longest longest)

-- ---- the root's turn

first-top : (t : List ℤ) → (placed_nodes t 0).top ≡ 1
unfolding place_all unplaced
first-top t = refl

module _ (t : List ℤ) (a : verdict t ≡ Accepted) {N : ℕ} {B C : List ℤ} {W : List ℕ} (F : Filled t N (placed_nodes t 0) B C W) where
  root_node : 0 < length (nodes_of t)
  root_node = (nodes_ready t a).nonempty

  root-slot : 0 ≡ (placed_nodes t 0).slot (node_at (nodes_of t) 0).words
  root-slot = sym (ap (placed_nodes t 0).slot (root-words t) ∙ (I t a root_node F).root)

  root-fewer : length (node_at (nodes_of t) 0).words ≢ order_of t
  root-fewer e = absurd (omega (arith, (nodes_ready t a).some_words, ap length (root-words t)))

  module _ (k : ℕ) (o : RowsBelow t 2 k) where
    pub root-fits : 8 * (0 + k) ≤ length t
    unfolding rows_of
    root-fits = omega (arith, o.within)

    root_oldest : oldest_of (part_rows t 0 k) ≡ children (nodes_of t) (node_at (nodes_of t) 0).words
    root_oldest = oldest_rows t 0 k root-fits ∙ sym (ap (children (nodes_of t)) (root-words t) ∙ children-root t a k o)

    root-stretch : Children t (node_at (nodes_of t) 0).words 0 k
    root-stretch = subst (λ (us : List ℕ). Children t us 0 k) (sym (root-words t)) (root-children t a k o)

    pub root_settles : Settles N (placed_nodes t 0).base (placed_nodes t 0).check B C (part_rows t 0 k) 0 (negsuc 0)
    root_settles =
        let e = count-rows t 0 k root-fits in
        settles t a root_node F root_oldest 0 (subst (Children t (node_at (nodes_of t) 0).words 0) (sym e) root-stretch)
        (λ j l. middle_field t 0 k j 1 (omega arith) (lit< tt)) root-slot refl

    pub root_tried : {load : ℤ} {r : ℕ} {B' C' : List ℤ} {I' : List ℕ} → load ≡ pos (rows_of t)
        → NodePlaced N (placed_nodes t 0).base (placed_nodes t 0).check (part_rows t 0 k) 0 (negsuc 0) load 1 (take k W) r B' C' I'
        → Tried t N (placed_nodes t 1) r B' C' (back 0 k W I')
    unfolding root_of
    root_tried e D =
        tried t a root_node F root-fewer root_oldest (sym (first-top t))
        root-slot (ap (λ (n : Node). negsuc n.cost) (sym (node_at-root t))) (e ∙ ap (λ (n : Node). n.load) (sym (node_at-root t))) D
        0 k root-stretch refl (λ j l. middle_field t 0 k j 1 l (lit< tt))

-- ---- a row's turn

module _ (t : List ℤ) (a : verdict t ≡ Accepted) (i : ℕ) (l : i < rows_of t) {N : ℕ} {B C : List ℤ} {W : List ℕ} (F : Filled t N (placed_nodes t (i + 1)) B C W) where
  row_in_nodes : i + 1 < length (nodes_of t)
  row_in_nodes = omega (arith, length-nodes_of t)

  node_is : node_at (nodes_of t) (i + 1) ≡ node_of t i
  node_is = rw (add-one i) (node_at-row t i l)

  words-is : (node_at (nodes_of t) (i + 1)).words ≡ words t i
  words-is = rw (add-one i) (row_words_lem t i l)

  row-long : length (node_at (nodes_of t) (i + 1)).words ≡ length_of t i
  row-long = ap length words-is ∙ words-length t i (row_in t i l)

  row-slot : (s : ℕ) → s ≡ get_or W i 0 → s ≡ (placed_nodes t (i + 1)).slot (node_at (nodes_of t) (i + 1)).words
  row-slot s e = e ∙ F.item i l ∙ ap (placed_nodes t (i + 1)).slot (sym words-is)

  row-mark : marker_check (probability_at t i) ≡ negsuc (node_at (nodes_of t) (i + 1)).cost
  row-mark = rw node_is (sym (row-check t a i l))

  row-load : (e f : Bool) → extended_in t (words t i) ≡ e → f ≡ continued_in t (words t i) → marker_base (backoff_at t i) e f ≡ (node_at (nodes_of t) (i + 1)).load
  unfolding node_of
  row-load e f q c = rw (node_is, q, c)

  pub row-held : (s : ℕ) → s ≡ get_or W i 0 → Held B s
  row-held s e = slot_held t a row_in_nodes F (row-slot s e)

  pub row-taken : (s : ℕ) → s ≡ get_or W i 0 → is_free ((placed_nodes t (i + 1)).check s) ≡ false
  row-taken s e = slot-taken t a row_in_nodes F (row-slot s e)

  pub row-bare : length_of t i ≡ order_of t → {s : ℕ} {mark : ℤ} {B' : List ℤ} → s ≡ get_or W i 0 → mark ≡ marker_check (probability_at t i)
      → Linked N (update (placed_nodes t (i + 1)).base s mark) (placed_nodes t (i + 1)).check B' C → Filled t N (placed_nodes t (suc (i + 1))) B' C W
  row-bare longest {s} e f b = bare-filled t a row_in_nodes F (row-long ∙ longest) (row-slot s e) (f ∙ row-mark) b

  pub row-top : length_of t i ≡ order_of t → (placed_nodes t (suc (i + 1))).top ≡ (placed_nodes t (i + 1)).top
  row-top longest = bare-top t a row_in_nodes F (row-long ∙ longest)

  module _ (from to : ℕ) (S : Stretch t i from to) where
    pub row_fits : 8 * (from + (to - from)) ≤ length t
    unfolding rows_of
    row_fits = omega (arith, S.order, S.within)

    row_oldest : oldest_of (part_rows t from (to - from)) ≡ children (nodes_of t) (node_at (nodes_of t) (i + 1)).words
    row_oldest = oldest_rows t from (to - from) row_fits ∙ sym (ap (children (nodes_of t)) words-is ∙ children-stretch t a i from to S)

    row-stretch : Children t (node_at (nodes_of t) (i + 1)).words from (to - from)
    row-stretch = subst (λ (us : List ℕ). Children t us from (to - from)) (sym words-is) (row-children t i from to S)

    pub row_settles : {s : ℕ} {mark : ℤ} → s ≡ get_or W i 0 → mark ≡ marker_check (probability_at t i)
        → Settles N (placed_nodes t (i + 1)).base (placed_nodes t (i + 1)).check B C (part_rows t from (to - from)) s mark
    row_settles {s} {mark} e f =
        let n = count-rows t from (to - from) row_fits in
        settles t a row_in_nodes F row_oldest from (subst (Children t (node_at (nodes_of t) (i + 1)).words from) (sym n) row-stretch)
        (λ j l. middle_field t from (to - from) j 1 (omega arith) (lit< tt)) (row-slot s e) (ap is_link f ∙ mark-apart t a i l)

    pub row_tried : {s : ℕ} {mark load : ℤ} {top r : ℕ} {f : Bool} {B' C' : List ℤ} {I' : List ℕ}
        → length_of t i < order_of t → top ≡ (placed_nodes t (i + 1)).top → s ≡ get_or W i 0 → mark ≡ marker_check (probability_at t i) → f ≡ continued_in t (words t i) → load ≡ marker_base (backoff_at t i) (ltb from to) f
        → NodePlaced N (placed_nodes t (i + 1)).base (placed_nodes t (i + 1)).check (part_rows t from (to - from)) s mark load top (take (to - from) (drop from W)) r B' C' I'
        → Tried t N (placed_nodes t (i + 2)) r B' C' (back from (to - from) W I')
    row_tried {s} {f = f} fewer o e q c g D =
        let two : i + 2 ≡ suc (i + 1) = omega arith in
        rw two
        (tried t a row_in_nodes F (λ q. absurd (omega (arith, row-long))) row_oldest o
        (row-slot s e) (q ∙ row-mark) (g ∙ row-load (ltb from to) f (stretch-extended t i from to S) c) D
        from (to - from) row-stretch refl (λ j h. middle_field t from (to - from) j 1 h (lit< tt)))

-- ---- a top that lies within the slots, or does not

pub tried_within : {t : List ℤ} {N : ℕ} {P : Placed} {base check : List ℤ} {items : List ℕ} (r slots : ℕ) (top : Result ℕ Reason) → slots ≡ N
    → MatchResult top (λ kept. (kept ≡ r) × (r ≤ slots)) (λ reason. (reason ≡ NoRoom) × (slots < r)) → Tried t N P r base check items → TriedTop t N P top base check items
tried_within r slots (Ok kept) e m T = rw m.0 (omega (arith, m.1), T)
tried_within r slots (Err reason) e m T = (m.0, omega (arith, m.1, T.answer))
