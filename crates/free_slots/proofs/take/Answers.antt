-- The two links that the slot holds tell where its neighbours are, and how many taken slots lie between them then.
use mathlib.Core.Path.{◌≡◌, refl, sym, ap, ◌∙◌}
use mathlib.Core.Bool.{true}
use mathlib.Core.List.{List}
use Prim.Native.Nat.{ℕ, suc, ◌+◌, ◌^◌, ◌-◌, ◌≤◌, ◌<◌}
use native.Mathlib.Omega.{arith}
use lib.IntN.{ℤ, pos, nat_abs, ◌+ℤ◌, ◌-ℤ◌}
use lib.ListN.{length, get_or, set, length-set}
use lib.Seq.{set_out}
use mir.Syntax.{w32}
use mir.Val.{SFits, to_z, of_z}
use mir.Facts.{to_z-of_z, to_z_pos}
use borrow.Author.Rules.{rules}
use Rattle.integer.proofs.Arithmetic.{zarith, add, sub, to_nat}
use Rattle.backoff.specs.Limits.{slot_limit}
use Rattle.child_slots.specs.Children.{free_check}
use Rattle.placing.specs.Placing.{Room, is_free}
use Rattle.free_slots.specs.Chain.{next_free, last_free, taken_above, taken_below, link_check, Linked, Takes}
use Rattle.free_slots.proofs.Neighbours.{next-first, last_free-last}
use Rattle.free_slots.proofs.Taking.{chain_slot}
use Rattle.free_slots.proofs.Chain.{linked-base-length, linked-check-length, up-link, down-link, linked-take}
use Rattle.free_slots.proofs.take.Goals as goal

-- the slots next to t, as its two links tell them
record Near (N : ℕ) (room : Room) (t above below : ℕ) : Type 0 where
  above-is : above ≡ taken_above N room t
  below-is : below ≡ taken_below room t
  previous : last_free room t < t
  next : t < next_free N room t
  within : next_free N room t ≤ N
  few : N ≤ slot_limit

module _ {N : ℕ} {room : Room} {t above below : ℕ} (n : Near N room t above below) where
  near-below : below ≤ t - 1
  near-below = omega (arith, n)

  near_previous : t - 1 - below ≡ last_free room t
  near_previous = omega (arith, n)

  near_next : t + 1 + above ≡ next_free N room t
  near_next = omega (arith, n)

  near-between : below + 1 + above ≡ next_free N room t - suc (last_free room t)
  near-between = omega (arith, n)

  near-few : next_free N room t - suc (last_free room t) ≤ slot_limit
  near-few = omega (arith, n)

  near-between_small : below + 1 + above < 2 ^ 31
  near-between_small = omega (arith, n)

-- two stores, a length behind a store and two linked slices, by what equals them
stores_as : (l : List ℤ) {i i' j j' : ℕ} {x x' y y' : ℤ} → i ≡ i' → x ≡ x' → j ≡ j' → y ≡ y' → set (set l i x) j y ≡ set (set l i' x') j' y'
stores_as l e g h k = rw (e, g, h, k)

length_as : (l : List ℤ) (i : ℕ) {n m : ℕ} {x y : ℤ} → x ≡ y → n ≡ m → length (set l i x) ≤ n → length (set l i y) ≤ m
length_as l i e g h = rw (e, g) at h

linked_as : {N : ℕ} {b room : Room} {base base' check check' : List ℤ} → base' ≡ base → check' ≡ check → Linked N b room base check → Linked N b room base' check'
linked_as e g h = rw (e, g) h

-- a link read back
link-back : (z : ℤ) (k : ℕ) → z ≡ link_check k → k ≤ slot_limit → SFits w32 (z -ℤ free_check) × (z -ℤ free_check ≡ pos k)
link-back z k e l = omega (zarith, add free_check (pos k), sub z free_check)

-- and one that fits its slot
link_fits : (k : ℕ) → k ≤ slot_limit → SFits w32 (link_check k)
link_fits k l = omega (zarith, add free_check (pos k))

-- the two links, for whatever b and c the slices hold, and as the code has them
module _ {base check : List ℤ} {t : ℕ} {mark : ℤ} (P : Takes base check t mark) {N : ℕ} {b room : Room} (L : Linked N b room base check) (free : is_free (room t) ≡ true) where
  abbrev up : ℤ
  up = get_or base t (pos 0)

  abbrev down : ℤ
  down = get_or check t (pos 0)

  inside : t < N
  inside = omega (arith, P.inside, linked-check-length P.linked, linked-check-length L)

  up_is : up ≡ pos (taken_above N room t)
  up_is = up-link L t inside (chain_slot room t P.positive ∙ free)

  down-back : SFits w32 (down -ℤ free_check) × (down -ℤ free_check ≡ pos (taken_below room t))
  down-back = link-back down (taken_below room t) (down-link L t inside (chain_slot room t P.positive ∙ free)) (omega (arith, inside, L.size))

  module _ (up_fits : SFits w32 up) (down_fits : SFits w32 down) where
    abbrev above : ℕ
    above = nat_abs (to_z w32 (of_z w32 up))

    abbrev below : ℕ
    below = nat_abs (to_z w32 (of_z w32 (to_z w32 (of_z w32 down) -ℤ free_check)))

    sub_is : to_z w32 (of_z w32 down) -ℤ free_check ≡ down -ℤ free_check
    sub_is = ap (λ (z : ℤ). z -ℤ free_check) (to_z-of_z down_fits)

    sub_fits : SFits w32 (to_z w32 (of_z w32 down) -ℤ free_check)
    sub_fits = rw sub_is down-back.0

    near : Near N room t above below
    near =
        let n = next-first room N t inside in
        record {
          above-is = ap nat_abs (to_z-of_z up_fits ∙ up_is);
          below-is = ap nat_abs (to_z-of_z sub_fits ∙ sub_is ∙ down-back.1);
          previous = (last_free-last room t P.positive).below;
          next = n.from;
          within = n.within;
          few = L.size.1;
        }

    -- what is stored: BASE of the one before, and CHECK of the next one
    base-stored : to_z w32 (below + 1 + above) ≡ pos (next_free N room t - suc (last_free room t))
    base-stored = rw (near-between near) (to_z_pos w32 (omega (arith, near)))

    check-is : free_check +ℤ to_z w32 (below + 1 + above) ≡ link_check (next_free N room t - suc (last_free room t))
    check-is = ap (λ (z : ℤ). free_check +ℤ z) base-stored

    check-fits : SFits w32 (free_check +ℤ to_z w32 (below + 1 + above))
    check-fits = rw check-is (link_fits (next_free N room t - suc (last_free room t)) (near-few near))

module _ {base check : List ℤ} {t : ℕ} {mark : ℤ} (P : Takes base check t mark) where
  in_base : t < length base
  in_base = omega (arith, P.inside, linked-base-length P.linked)

  in_check : t < length check
  in_check = omega (arith, P.inside, linked-check-length P.linked)

pub slice_copy_out-above : goal.slice_copy_out-above
slice_copy_out-above c = in_base c.requires

pub overflow_cast-above : goal.overflow_cast-above
overflow_cast-above c =
    let p = c.requires in
    let u : SFits w32 (get_or c.args.base.now c.args.t (pos 0)) = search rules in
    let e = up_is p p.linked p.free in
    to_nat tt u (omega zarith)

pub slice_copy_out-below : goal.slice_copy_out-below
slice_copy_out-below c = in_check c.requires

pub overflow_sub-below : goal.overflow_sub-below
overflow_sub-below c =
    let p = c.requires in
    let u : SFits w32 (get_or c.args.base.now c.args.t (pos 0)) = search rules in
    let d : SFits w32 (get_or c.args.check.now c.args.t (pos 0)) = search rules in
    sub_fits p p.linked p.free u d

pub overflow_cast-below : goal.overflow_cast-below
overflow_cast-below c =
    let p = c.requires in
    let u : SFits w32 (get_or c.args.base.now c.args.t (pos 0)) = search rules in
    let d : SFits w32 (get_or c.args.check.now c.args.t (pos 0)) = search rules in
    let e = sub_is p p.linked p.free u d ∙ (down-back p p.linked p.free).1 in
    to_nat tt (sub_fits p p.linked p.free u d) (omega zarith)

pub overflow_sub-previous-2 : goal.overflow_sub-previous-2
overflow_sub-previous-2 c =
    let p = c.requires in
    let u : SFits w32 (get_or c.args.base.now c.args.t (pos 0)) = search rules in
    let d : SFits w32 (get_or c.args.check.now c.args.t (pos 0)) = search rules in
    near-below (near p p.linked p.free u d)

pub overflow_cast-between : goal.overflow_cast-between
overflow_cast-between c =
    let p = c.requires in
    let u : SFits w32 (get_or c.args.base.now c.args.t (pos 0)) = search rules in
    let d : SFits w32 (get_or c.args.check.now c.args.t (pos 0)) = search rules in
    record { sfits = near-between_small (near p p.linked p.free u d) }

pub bounds-base-previous : goal.bounds-base-previous
bounds-base-previous c =
    let p = c.requires in
    let u : SFits w32 (get_or c.args.base.now c.args.t (pos 0)) = search rules in
    let d : SFits w32 (get_or c.args.check.now c.args.t (pos 0)) = search rules in
    omega (arith, near p p.linked p.free u d, linked-base-length p.linked)

pub bounds-base-t : goal.bounds-base-t
bounds-base-t c = omega (arith, in_base c.requires, length-set {A = ℤ})

pub bounds-check-t : goal.bounds-check-t
bounds-check-t c = in_check c.requires

pub overflow_add-check : goal.overflow_add-check
overflow_add-check c =
    let p = c.requires in
    let u : SFits w32 (get_or c.args.base.now c.args.t (pos 0)) = search rules in
    let d : SFits w32 (get_or c.args.check.now c.args.t (pos 0)) = search rules in
    check-fits p p.linked p.free u d

pub returns-then-next-check : goal.returns-then-next-check
returns-then-next-check c N b room L free =
    let a = c.args in
    let p = c.requires in
    let u : SFits w32 (get_or a.base.now a.t (pos 0)) = search rules in
    let d : SFits w32 (get_or a.check.now a.t (pos 0)) = search rules in
    let n = near p L free u d in
    linked_as
    (stores_as a.base.now (near_previous n) (base-stored p L free u d) refl (to_z-of_z c.ranges.load))
    (stores_as a.check.now refl (to_z-of_z c.ranges.mark) (near_next n) (to_z-of_z (check-fits p L free u d) ∙ check-is p L free u d))
    (linked-take L a.t p.positive (inside p L free) free a.load a.mark p.apart)

pub returns-else-next-check : goal.returns-else-next-check
returns-else-next-check c N b room L free =
    let a = c.args in
    let p = c.requires in
    let u : SFits w32 (get_or a.base.now a.t (pos 0)) = search rules in
    let d : SFits w32 (get_or a.check.now a.t (pos 0)) = search rules in
    let n = near p L free u d in
    let marked = to_z-of_z c.ranges.mark in
    let past = length_as a.check.now a.t marked (near_next n) c.if-next-check.false in
    linked_as
    (stores_as a.base.now (near_previous n) (base-stored p L free u d) refl (to_z-of_z c.ranges.load))
    (ap (set a.check.now a.t) marked ∙ sym (set_out (set a.check.now a.t a.mark) (next_free N room a.t) (link_check (next_free N room a.t - suc (last_free room a.t))) past))
    (linked-take L a.t p.positive (inside p L free) free a.load a.mark p.apart)
