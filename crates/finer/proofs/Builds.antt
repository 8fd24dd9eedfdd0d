-- The placing rule looks at the words of the nodes alone, so a build of a list that is multiplied is accepted or refused as one of the list, and puts every node
-- into the same slot. Assumes nothing.
use mathlib.Core.Path.{◌≡◌, refl, sym, ap, ap₂, subst, ◌∙◌}
use mathlib.Core.Bool.{Bool, true, false, cond, ◌&&◌, ◌||◌}
use mathlib.Core.List.{List, [], ◌∷◌}
use Prim.Native.Nat.{ℕ, zero, suc, ◌+◌, ◌≤◌, ◌<◌}
use native.Mathlib.Omega.{arith}
use borrow.Author.Tests.{ne_eqb}
use lib.Dec.{eqb, leb}
use lib.IntN.{ℤ, pos, negsuc, nat_abs}
use lib.ListN.{length, replicate}
use Rattle.integer.proofs.Arithmetic.{zarith, abs}
use Rattle.integer.proofs.Ranges.{between-low, between-high}
use Rattle.backoff.specs.Limits.{least_probability}
use Rattle.backoff.specs.Model.{in_probability}
use Rattle.backoff.specs.Refusal.{table_length, array_length}
use Rattle.backoff.specs.Run.{written}
use Rattle.backoff.specs.Refusal.{Verdict}
use Rattle.backoff.specs.Refusal.{Accepted, Refused}
use Rattle.rows.specs.Table.{rows_of, probability_at, order_of}
use Rattle.list.specs.Check.{table_fits, verdict}
use Rattle.list.proofs.Check.{accepted-row}
use Rattle.child_slots.specs.Children.{child_slot}
use Rattle.double_array.specs.DoubleArray.{sizes_ok}
use Rattle.placing.specs.Trie.{Node, child_of, children}
use Rattle.placing.specs.Placing.{Room, is_free, update, is_open, all_open, fits, search, first_fit, own, top_with, give, Placed, settle, place_at, with_marker, without_marker, place, place_all, placing}
use Rattle.row_nodes.specs.ListTrie.{node_of, root_of, nodes_from, nodes_of}
use Rattle.list_trie.specs.ListTrie.{placed_list, slots_from, row_slots}
use Rattle.placed_list.specs.Build.{Built, untouched, emptied, filled, checked_build}
use Rattle.build.specs.Build.{build_outcome}
use Rattle.finer.specs.FinerList.{OlderPoints, taken_over}
use Rattle.finer.proofs.FinerList.{length-times, rows-times, order_of-times, words-times, taken_over-verdict}

-- ---- the placing rule on nodes with the same words

-- nodes with the same words, none of whose markers looks free
pub data SameNodes : List Node → List Node → Type 0 where
  none : SameNodes [] []
  next : {m n : Node} {ms ns : List Node} → m.words ≡ n.words → m.cost < 2147483647 → n.cost < 2147483647 → SameNodes ms ns → SameNodes (m ∷ ms) (n ∷ ns)

abbrev FreeAlike : Room → Room → Type 0
FreeAlike c e = (t : ℕ) → is_free (c t) ≡ is_free (e t)

record PlacedAlike (P Q : Placed) : Type 0 where
  free : FreeAlike P.check Q.check
  slot : P.slot ≡ Q.slot
  top : P.top ≡ Q.top

children-same : {ms ns : List Node} → SameNodes ms ns → (us : List ℕ) → children ms us ≡ children ns us
unfolding children
children-same none us = refl
children-same (next e c d s) us = ap₂ (λ (ws : List ℕ) (ks : List ℕ). child_of us ws ks) e (children-same s us)

update_same : (c e : Room) → FreeAlike c e → (i : ℕ) (v w : ℤ) → is_free v ≡ is_free w → FreeAlike (update c i v) (update e i w)
unfolding update
update_same c e h i v w f t = go (eqb t i)
  where
    go : (b : Bool) → is_free (cond b v (c t)) ≡ is_free (cond b w (e t))
    go true = f
    go false = h t

own_same : (behind : Bool) (d s : ℕ) (ws : List ℕ) (c e : Room) → FreeAlike c e → FreeAlike (own behind d s ws c) (own behind d s ws e)
unfolding own
own_same behind d s [] c e h = h
own_same behind d s (w ∷ ws) c e h =
    let t = child_slot behind d w in
    own_same behind d s ws (update c t (pos s)) (update e t (pos s)) (update_same c e h t (pos s) (pos s) refl)

is_open-same : (c e : Room) → FreeAlike c e → (t : ℕ) → is_open c t ≡ is_open e t
unfolding is_open
is_open-same c e h t = ap (λ (b : Bool). leb 1 t && b) (h t)

all_open-same : (c e : Room) → FreeAlike c e → (behind : Bool) (d : ℕ) (ws : List ℕ) → all_open c behind d ws ≡ all_open e behind d ws
unfolding all_open
all_open-same c e h behind d [] = refl
all_open-same c e h behind d (w ∷ ws) = ap₂ ◌&&◌ (is_open-same c e h (child_slot behind d w)) (all_open-same c e h behind d ws)

fits-same : (c e : Room) → FreeAlike c e → (ws : List ℕ) → fits c ws ≡ fits e ws
unfolding fits
fits-same c e h ws = λ i d. ap₂ ◌&&◌ (h d) (ap₂ ◌||◌ (all_open-same c e h true d ws) (all_open-same c e h false d ws)) i

first_fit-same : (c e : Room) → FreeAlike c e → (ws : List ℕ) (top : ℕ) → first_fit c ws top ≡ first_fit e ws top
unfolding first_fit
first_fit-same c e h ws top = ap (λ (f : ℕ → Bool). search f top 1 (f 1)) (fits-same c e h ws)

marker_taken : (n : ℕ) → n < 2147483647 → is_free (negsuc n) ≡ false
unfolding is_free
marker_taken n h = ne_eqb n 2147483647 (λ e. omega arith)

module _ {P Q : Placed} (A : PlacedAlike P Q) (m n : Node) (e : m.words ≡ n.words) (c : m.cost < 2147483647) (f : n.cost < 2147483647) (ws : List ℕ) where
  settle-same : (behind : Bool) (d : ℕ) → PlacedAlike (settle m ws behind d P) (settle n ws behind d Q)
  unfolding settle
  settle-same behind d =
      let s : P.slot m.words ≡ Q.slot n.words = ap₂ (λ (g : List ℕ → ℕ) (us : List ℕ). g us) A.slot e in
      let t = Q.slot n.words in
      record {
        free =
            rw s
            (update_same (own behind d t ws P.check) (own behind d t ws Q.check) (own_same behind d t ws P.check Q.check A.free) d (negsuc m.cost) (negsuc n.cost)
            (marker_taken m.cost c ∙ sym (marker_taken n.cost f)));
        slot = ap₂ (λ (us : List ℕ) (g : List ℕ → ℕ). give us behind d g) e A.slot;
        top = ap (λ (x : ℕ). top_with x behind d ws) A.top;
      }

  marked-same : PlacedAlike (with_marker m ws P) (with_marker n ws Q)
  unfolding with_marker place_at
  marked-same =
      let d : first_fit P.check ws P.top ≡ first_fit Q.check ws Q.top = first_fit-same P.check Q.check A.free ws P.top ∙ ap (first_fit Q.check ws) A.top in
      let fit = first_fit Q.check ws Q.top in
      rw (d, all_open-same P.check Q.check A.free true fit ws) (settle-same (all_open Q.check true fit ws) fit)

  place_same : (order : ℕ) → PlacedAlike (place order m ws P) (place order n ws Q)
  unfolding place without_marker
  place_same order =
      subst (λ (us : List ℕ). PlacedAlike (cond (eqb (length us) order) (without_marker m P) (with_marker m ws P)) (place order n ws Q)) (sym e) (go (eqb (length n.words) order))
    where
      go : (b : Bool) → PlacedAlike (cond b (without_marker m P) (with_marker m ws P)) (cond b (without_marker n Q) (with_marker n ws Q))
      go true = record { free = A.free; slot = A.slot; top = A.top }
      go false = marked-same

place_all-same : (order : ℕ) {as' bs : List Node} → SameNodes as' bs → {ms ns : List Node} → SameNodes ms ns → {P Q : Placed} → PlacedAlike P Q → PlacedAlike (place_all order as' ms P) (place_all order bs ns Q)
unfolding place_all
place_all-same order all none A = A
place_all-same order {as' = as'} {bs = bs} all (next {m = m} {n = n} e c d s) {P = P} {Q = Q} A =
    place_all-same order all s
    (subst (λ (ws : List ℕ). PlacedAlike (place order m (children as' m.words) P) (place order n ws Q)) (children-same all m.words ∙ ap (children bs) e)
    (place_same A m n e c d (children as' m.words) order))

placing-same : (order : ℕ) {ms ns : List Node} → SameNodes ms ns → PlacedAlike (placing order ms) (placing order ns)
unfolding placing
placing-same order s = place_all-same order s s (record { free = λ t. refl; slot = refl; top = refl })

-- ---- the nodes of a list in the older points, and of the list that it becomes

-- what a caller sees of two builds but for the arrays: the answer and the slots of the nodes
record AnsweredSame (x y : Built) : Type 0 where
  answer-same : x.answer ≡ y.answer
  work-same : x.work ≡ y.work

cost_small : (t : List ℤ) → verdict t ≡ Accepted → (i : ℕ) → i < rows_of t → nat_abs (probability_at t i) < 2147483647
unfolding in_probability
cost_small t a i h =
    let p = probability_at t i in
    let e = (accepted-row t a i h).fields.probability in
    let low = between-low least_probability (pos 0) p e in
    let high = between-high least_probability (pos 0) p e in
    omega (zarith, abs p)

module _ (t : List ℤ) (O : OlderPoints t) where
  abbrev u : List ℤ
  u = taken_over t

  rows_alike : rows_of u ≡ rows_of t
  rows_alike = rows-times 100 t

  module _ (a : verdict t ≡ Accepted) where
    taken : verdict u ≡ Accepted
    taken = taken_over-verdict t O false ∙ a

    nodes_from-same : (i r : ℕ) → i + r ≤ rows_of t → SameNodes (nodes_from u i r) (nodes_from t i r)
    unfolding nodes_from node_of
    nodes_from-same i zero h = none
    nodes_from-same i (suc r) h =
        next (ap (λ (f : ℕ → List ℕ). f i) (words-times 100 t)) (cost_small u taken i (rw rows_alike (omega arith))) (cost_small t a i (omega arith)) (nodes_from-same (suc i) r (omega arith))

    nodes-same : SameNodes (nodes_of u) (nodes_of t)
    unfolding nodes_of root_of
    nodes-same = next {m = root_of u} {n = root_of t} refl (omega arith) (omega arith) (subst (λ (n : ℕ). SameNodes (nodes_from u 0 n) (nodes_from t 0 (rows_of t))) (sym rows_alike) (nodes_from-same 0 (rows_of t) (omega arith)))

    placed_same : PlacedAlike (placed_list u) (placed_list t)
    unfolding placed_list
    placed_same = rw (order_of-times 100 t) (placing-same (order_of t) nodes-same)

    slots_from-same : (i r : ℕ) → slots_from u i r ≡ slots_from t i r
    unfolding slots_from
    slots_from-same i zero = refl
    slots_from-same i (suc r) =
        ap₂ (λ (x : ℕ) (l : List ℕ). x ∷ l) (ap₂ (λ (g : List ℕ → ℕ) (f : ℕ → List ℕ). g (f i)) placed_same.slot (words-times 100 t)) (slots_from-same (suc i) r)

    row_slots-same : row_slots u ≡ row_slots t
    unfolding row_slots
    row_slots-same = ap (slots_from u 0) rows_alike ∙ slots_from-same 0 (rows_of t)

  module _ (base check : List ℤ) (work : List ℕ) where
    refused-same : (v : Verdict) → AnsweredSame (untouched u base check work v) (untouched t base check work v)
    unfolding untouched
    refused-same v = record { answer-same = refl; work-same = refl }

    placed_alike : verdict t ≡ Accepted → (b : Bool) → AnsweredSame (cond b (filled u base check work) (emptied u base check work)) (cond b (filled t base check work) (emptied t base check work))
    unfolding filled emptied
    placed_alike a true = record { answer-same = refl; work-same = ap (λ (l : List ℕ). written l work) (row_slots-same a) }
    placed_alike a false = record { answer-same = refl; work-same = ap (λ (n : ℕ). written (replicate n 0) work) rows_alike }

    checked-alike : (v : Verdict) → verdict t ≡ v → AnsweredSame (checked_build u base check work v) (checked_build t base check work v)
    checked-alike Accepted a = rw (placed_same a).top (placed_alike a (leb (placed_list t).top (length base)))
    checked-alike (Refused n k) a = refused-same (Refused n k)

    build_alike : AnsweredSame (build_outcome u base check work) (build_outcome t base check work)
    unfolding build_outcome
    build_alike =
        rw (length-times 100 t, rows_alike, taken_over-verdict t O false)
        (go (table_fits (length t)) (sizes_ok base check && leb (rows_of t) (length work)))
      where
        go : (a b : Bool)
            → AnsweredSame (cond a (cond b (checked_build u base check work (verdict t)) (untouched u base check work (Refused array_length 0))) (untouched u base check work (Refused table_length 0)))
            (cond a (cond b (checked_build t base check work (verdict t)) (untouched t base check work (Refused array_length 0))) (untouched t base check work (Refused table_length 0)))
        go true true = checked-alike (verdict t) refl
        go true false = refused-same (Refused array_length 0)
        go false b = refused-same (Refused table_length 0)

    -- accepted, or refused by the same number at the same row, into the same slices
    pub built-answers-alike : (build_outcome u base check work).answer ≡ (build_outcome t base check work).answer
    built-answers-alike = build_alike.answer-same

    -- and with every row's node in the same slot
    pub built-slots-alike : (build_outcome u base check work).work ≡ (build_outcome t base check work).work
    built-slots-alike = build_alike.work-same
