-- Each child's slot is taken, then the marker's, and the node's own gets its BASE.
use mathlib.Core.Path.{◌≡◌, sym, ap, ◌∙◌}
use mathlib.Core.Logic.{◌≢◌}
use mathlib.Core.Bool.{Bool, false, false≢true}
use mathlib.Core.List.{List}
use Prim.Native.Nat.{ℕ, ◌≤◌, ◌<◌}
use native.Mathlib.Omega.{arith}
use lib.IntN.{ℤ, pos}
use mir.Syntax.{w32}
use mir.Val.{SFits, to_z}
use mir.Facts.{to_z-of_z, to_z_pos}
use borrow.Author.Rules.{rules}
use Rattle.backoff.specs.Limits.{slot_limit}
use Rattle.rows.specs.Table.{rows_of}
use Rattle.child_slots.specs.Children.{child_slot}
use Rattle.placing.specs.Placing.{Room, is_free, update, own}
use Rattle.placing.proofs.Rooms.{update_other, reach-top}
use Rattle.free_slots.proofs.Chain.{linked-base-length}
use Rattle.first_fit.specs.Steps.{oldest_of, Settles, Fitting}
use Rattle.first_fit.proofs.OldestWords.{slots_open, owning_none, owning_takes, owning_next, owning_end}
use Rattle.first_fit.proofs.settle.Goals as goal

-- the node's slot and its d are slots
few : {N : ℕ} {b c : Room} {base check rows : List ℤ} {slot d : ℕ} {mark : ℤ} {behind : Bool} → Settles N b c base check rows slot mark → Fitting N c rows behind d → (slot < N) × (d < N) × (N ≤ slot_limit)
few {rows = rows} {d = d} {behind = behind} S F = omega (arith, S.inside, reach-top 0 behind d (oldest_of rows), F.within, S.linked.size)

small : (n : ℕ) → n ≤ slot_limit → to_z w32 n ≡ pos n
small n l = to_z_pos w32 (omega arith)

pub loop-k-init : goal.loop-k-init
loop-k-init c N b room z S F = owning_none S F

pub child_slot-t-requires : goal.child_slot-t-requires
unfolding rows_of
child_slot-t-requires c =
    let p = c.requires.by_index in
    let a = c.args in
    let f = few p.3 p.4 in
    let slots = slots_open p.2 a.fit.behind a.fit.d a.rows.now p.4.opened in
    (omega (arith, f), c.oldest_word.ensures.1, λ e. rw c.oldest_word.ensures.0 (slots.room e c.loop-k.k c.loop-k-test.true))

pub take-requires : goal.take-requires
unfolding rows_of
take-requires c =
    let p = c.requires.by_index in
    let a = c.args in
    let f = few p.3 p.4 in
    let child = c.child_slot-t.ensures ∙ ap (child_slot a.fit.behind a.fit.d) c.oldest_word.ensures.0 in
    rw (child, small a.node.slot (omega (arith, f))) (owning_takes (c.loop-k.invariant p.0 p.1 p.2 _ p.3 p.4) c.loop-k-test.true)

pub loop-k-preserved : goal.loop-k-preserved
unfolding rows_of
loop-k-preserved c N b room z S F =
    let a = c.args in
    let f = few S F in
    let child = c.child_slot-t.ensures ∙ ap (child_slot a.fit.behind a.fit.d) c.oldest_word.ensures.0 in
    let slot = small a.node.slot (omega (arith, f)) in
    let o = c.loop-k.invariant N b room z S F in
    owning_next o c.loop-k-test.true S.children (λ L free. rw (child, slot) at (c.take.ensures N b o.c L (rw child free)))

pub take-requires-2 : goal.take-requires-2
take-requires-2 c =
    let p = c.requires.by_index in
    let f = few p.3 p.4 in
    let o = c.loop-k.invariant p.0 p.1 p.2 _ p.3 p.4 in
    let g : SFits w32 c.args.node.mark = search rules in
    record { N = p.0; b = p.1; c = o.c; linked = o.linked; positive = p.4.positive; inside = f.1; free = o.d_free; apart = rw (to_z-of_z g) p.3.apart }

pub overflow_cast-d : goal.overflow_cast-d
overflow_cast-d c = let p = c.requires.by_index in let f = few p.3 p.4 in record { sfits = omega (arith, f) }

pub set_base-requires : goal.set_base-requires
set_base-requires c =
    let p = c.requires.by_index in
    let f = few p.3 p.4 in
    let n = linked-base-length p.3.linked in
    record { few = omega (arith, f, n); inside = omega (arith, f, n) }

pub returns : goal.returns
unfolding rows_of
returns c N b room S F =
    let a = c.args in
    let slot = a.node.slot in
    let owned = own a.fit.behind a.fit.d slot (oldest_of a.rows.now) room in
    let o = c.loop-k.invariant N b room _ S F in
    let f = few S F in
    let load : SFits w32 a.node.load = search rules in
    let mark : SFits w32 a.node.mark = search rules in
    let end : o.c ≡ owned = owning_end o c.loop-k-test.false in
    let marked = rw (to_z-of_z load, to_z-of_z mark, end) at (c.take-2.ensures N b o.c o.linked o.d_free) in
    let apart : slot ≢ a.fit.d = λ e. false≢true (sym o.taken ∙ ap (λ (x : ℕ). is_free (o.c x)) e ∙ o.d_free) in
    let taken : is_free (update owned a.fit.d a.node.mark slot) ≡ false = ap is_free (update_other owned a.fit.d a.node.mark slot apart) ∙ ap (λ (r : Room). is_free (r slot)) (sym end) ∙ o.taken in
    rw (small a.fit.d (omega (arith, f))) at (c.set_base.ensures N _ _ _ marked taken)
