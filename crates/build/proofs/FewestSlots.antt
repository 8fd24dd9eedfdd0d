-- A build's array does not depend on the number of slots lent, but for the free slots behind it; so the fewest slots that are enough are those up to the last
-- that is not free. Assumes nothing.
use mathlib.Core.Path.{◌≡◌, refl, sym, ap, ◌∙◌}
use mathlib.Core.Bool.{Bool, true, false, ◌&&◌, false≢true}
use mathlib.Core.List.{List, ◌++◌}
use Prim.Native.Nat.{ℕ, ◌-◌, ◌≤◌, ◌<◌}
use native.Mathlib.Omega.{arith}
use borrow.Author.Tests.{le-leb, lt-leb, leb-false}
use lib.Dec.{leb}
use lib.IntN.{ℤ, pos, negsuc}
use lib.ListN.{length, take, replicate}
use lib.Seq.{take_at}
use Rattle.integer.proofs.Ranges.{and_both}
use Rattle.backoff.specs.Refusal.{no_room}
use Rattle.backoff.specs.Run.{written}
use Rattle.backoff.specs.Refusal.{Verdict}
use Rattle.backoff.specs.Refusal.{Accepted, Refused}
use Rattle.rows.specs.Table.{rows_of, order_of}
use Rattle.list.specs.Check.{table_fits, verdict}
use Rattle.list.proofs.Check.{accepted-size, table_passes}
use Rattle.child_slots.specs.Children.{free_check}
use Rattle.double_array.specs.DoubleArray.{sizes_ok}
use Rattle.placing.specs.Trie.{Node}
use Rattle.placing.specs.Placing.{Placed, slots, used_slots}
use Rattle.placing.proofs.Placing.{Inv, below_top}
use Rattle.placing.proofs.NodeByNode.{placing_inv, placing-head}
use Rattle.placing.proofs.Slots.{length-slots, take-slots, slots-past, used_slots-slots}
use Rattle.row_nodes.specs.ListTrie.{root_of, nodes_of}
use Rattle.row_nodes.proofs.ListTrie.{node_at-root, nodes_ready}
use Rattle.list_trie.specs.ListTrie.{placed_list, row_slots}
use Rattle.placed_list.specs.Build.{Built, untouched, emptied, filled}
use Rattle.placed_list.proofs.Outcome.{length-row_slots}
use Rattle.build.specs.Build.{build_outcome}
use Rattle.build.specs.FewestSlots.{fewest, cut_base, cut_check, Lent, Leaves, FewestSlots}
use Rattle.build.proofs.Built.{AcceptedBuild, outcome_filled, build_accepted}

-- 2 lets them pass
passes : (t : List ℤ) {base check : List ℤ} {work : List ℕ} → Lent t base check work → (sizes_ok base check && leb (rows_of t) (length work)) ≡ true
passes t {base} {check} {work} L = and_both (sizes_ok base check) (leb (rows_of t) (length work)) L.sizes (le-leb (rows_of t) (length work) L.items)

module _ (t : List ℤ) (a : verdict t ≡ Accepted) where
  -- ---- where the placed list ends

  abbrev P : Placed
  P = placed_list t

  placed_inv : Inv (order_of t) (nodes_of t) (nodes_of t) P
  unfolding placed_list
  placed_inv = placing_inv (order_of t) (nodes_of t) (nodes_ready t a)

  base-past : (s : ℕ) → P.top ≤ s → P.base s ≡ pos 0
  base-past s l = placed_inv.blank s (placed_inv.past s l)

  used_is_top : (N : ℕ) → P.top ≤ N → used_slots (slots N P.check) ≡ P.top
  used_is_top N l = used_slots-slots N P.top P.check placed_inv.past placed_inv.last l

  -- the root's marker is in slot 1
  top-low : 2 ≤ P.top
  unfolding placed_list root_of
  top-low = below_top placed_inv 1 (λ e.
      let marker = (placing-head (order_of t) (nodes_of t) (nodes_ready t a)).check_1 ∙ ap (λ (n : Node). negsuc n.cost) (node_at-root t) in
      let z : ◌≡◌ {A = ℕ} 0 2147483647 = cc in
      absurd (omega arith))

  -- ---- which slices are enough

  fits : table_fits (length t) ≡ true
  fits = let s = accepted-size t a in ap table_fits s.2 ∙ table_passes (rows_of t) s.0 s.1

  module _ {base check : List ℤ} {work : List ℕ} (L : Lent t base check work) where
    enough-slots : P.top ≤ length base → (build_outcome t base check work).answer ≡ Accepted
    unfolding filled
    enough-slots l = ap (λ (b : Built). b.answer) (outcome_filled t base check work fits (passes t L) a (le-leb P.top (length base) l))

    too_few_slots : length base < P.top → (build_outcome t base check work).answer ≡ Refused no_room 0
    unfolding build_outcome emptied
    too_few_slots l = rw (fits, passes t L, a, lt-leb P.top (length base) l)

module _ (t B C : List ℤ) (W : List ℕ) (accepted : (build_outcome t B C W).answer ≡ Accepted) where
  abbrev built : Built
  built = build_outcome t B C W

  abbrev k : AcceptedBuild t B C W
  k = build_accepted t B C W accepted

  fewest-is-top : fewest built ≡ (placed_list t).top
  fewest-is-top = ap used_slots k.check-slots ∙ used_is_top t k.accepted (length B) k.room

  pub length-base : length built.base ≡ length B
  length-base = ap length k.base-slots ∙ length-slots (length B) (placed_list t).base

  cut-base : cut_base built ≡ slots (placed_list t).top (placed_list t).base
  cut-base = rw (fewest-is-top, k.base-slots) (take-slots (placed_list t).top (length B) (placed_list t).base k.room)

  cut-check : cut_check built ≡ slots (placed_list t).top (placed_list t).check
  cut-check = rw (fewest-is-top, k.check-slots) (take-slots (placed_list t).top (length B) (placed_list t).check k.room)

  row-slots : take (rows_of t) built.work ≡ row_slots t
  unfolding written
  row-slots = ap (take (rows_of t)) k.work-slots ∙ take_at (row_slots t) _ (rows_of t) (length-row_slots t)

  -- a build into N slots that are enough leaves those N slots
  module _ (base check : List ℤ) (work : List ℕ) (L : Lent t base check work) where
    leaves : (placed_list t).top ≤ length base → (base' check' : List ℤ) → base' ≡ slots (length base) (placed_list t).base → check' ≡ slots (length base) (placed_list t).check
        → Leaves t built base check work base' check'
    leaves l base' check' b c =
        let e = enough-slots t k.accepted L l in
        let m = build_accepted t base check work e in
        record {
          answer-is = sym e;
          base-is = b ∙ sym m.base-slots;
          check-is = c ∙ sym m.check-slots;
          work-is = ap (λ (l : List ℕ). written l work) row-slots ∙ sym m.work-slots;
        }

    leaves_cut : length base ≡ fewest built → Leaves t built base check work (cut_base built) (cut_check built)
    leaves_cut e =
        let n : length base ≡ (placed_list t).top = e ∙ fewest-is-top in
        leaves (omega arith) (cut_base built) (cut_check built) (rw n cut-base) (rw n cut-check)

    leaves_enough : fewest built ≤ length base
        → Leaves t built base check work (cut_base built ++ replicate (length base - fewest built) (pos 0)) (cut_check built ++ replicate (length base - fewest built) free_check)
    leaves_enough l =
        let room : (placed_list t).top ≤ length base = omega (arith, fewest-is-top) in
        leaves room _ _
        (rw (cut-base, fewest-is-top) (sym (slots-past (placed_list t).top (length base) (placed_list t).base (pos 0) (base-past t k.accepted) room)))
        (rw (cut-check, fewest-is-top) (sym (slots-past (placed_list t).top (length base) (placed_list t).check free_check (placed_inv t k.accepted).past room)))

    leaves_more : length built.base ≤ length base
        → Leaves t built base check work (built.base ++ replicate (length base - length built.base) (pos 0)) (built.check ++ replicate (length base - length built.base) free_check)
    leaves_more l =
        let more : length B ≤ length base = omega (arith, length-base) in
        let room = k.room in
        leaves (omega arith) _ _
        (rw (length-base, k.base-slots) (sym (slots-past (length B) (length base) (placed_list t).base (pos 0) (λ s h. base-past t k.accepted s (omega arith)) more)))
        (rw (length-base, k.check-slots) (sym (slots-past (length B) (length base) (placed_list t).check free_check (λ s h. (placed_inv t k.accepted).past s (omega arith)) more)))

  pub fewest-slots : FewestSlots t built
  fewest-slots = record {
    low = omega (arith, fewest-is-top, top-low t k.accepted);
    high = omega (arith, fewest-is-top, length-base, k.room);
    fewer = λ base check work L h. too_few_slots t k.accepted L (omega (arith, fewest-is-top));
    cut = leaves_cut;
    enough = leaves_enough;
    more = leaves_more;
  }

-- where 10 refuses a build, it refuses one into fewer slots
pub no-room_in_fewer : (t base check base' check' : List ℤ) (work work' : List ℕ) → Lent t base check work → Lent t base' check' work' → length base ≤ length base'
    → (build_outcome t base' check' work').answer ≡ Refused no_room 0 → (build_outcome t base check work).answer ≡ Refused no_room 0
unfolding build_outcome untouched filled emptied
no-room_in_fewer t base check base' check' work work' L L' few e = go (table_fits (length t)) (verdict t) (leb (placed_list t).top (length base')) refl refl refl
  where
    go : (f : Bool) (v : Verdict) (r : Bool) → table_fits (length t) ≡ f → verdict t ≡ v → leb (placed_list t).top (length base') ≡ r → (build_outcome t base check work).answer ≡ Refused no_room 0
    go true Accepted true p q r = absurd (false≢true (let z : Accepted ≡ Refused no_room 0 = rw (p, passes t L', q, r) at e in cc))
    go true Accepted false p q r = rw (p, passes t L, q, lt-leb (placed_list t).top (length base) (omega (arith, leb-false (placed_list t).top (length base') r)))
    go true (Refused n k) r p q s = rw (p, passes t L, q) (rw (p, passes t L', q) at e)
    go false v r p q s = rw p (rw p at e)
