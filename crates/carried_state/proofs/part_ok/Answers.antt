use Rattle.std.proofs.Common.{rules, ◌≡◌, true, false, Bool, ◌&&◌, ℕ, ℤ, pos, ◌+◌, ◌-◌, ◌<◌, ◌≤◌, drop, List, length, get_or, arith, sym, ◌∙◌, SFits, w32, refl}
use borrow.Author.Rules.{sfits_of}
use mir.Facts.{to_z-of_z, sfits_lit}
use native.Mathlib.Nat.{sub-zero}
use Rattle.integer.specs.Integer.{between, eq_z}
use Rattle.integer.proofs.Arithmetic.{zarith, bits_test}
use Rattle.carried_state.specs.Packed.{part_ok}
use Rattle.carried_state.proofs.Contained.{between_told}
use Rattle.carried_state.proofs.Parts.{part_on, part_done}
use Rattle.carried_state.proofs.part_ok.Goals as goal
use Rattle.carried_state.proofs.part_ok.Goals.{then-i-count, else-i-count}

pub loop-i-init : goal.loop-i-init
loop-i-init c = rw sub-zero

eq_z-sym : (a b : ℤ) → eq_z a b ≡ eq_z b a
eq_z-sym a b = go (eq_z b a) refl
  where
    go : (t : Bool) → eq_z b a ≡ t → eq_z a b ≡ t
    go true e = omega zarith
    go false e = omega zarith

-- the check goes on by the test of the item
turn : (low high : ℤ) (count i : ℕ) (items : List ℤ) (ok : Bool) → i < length items → part_ok (between low high) count items ≡ part_ok (between low high) (count - i) (drop i items) → (i < count → ok ≡ between low high (get_or items i (pos 0))) → (count ≤ i → ok ≡ eq_z (get_or items i (pos 0)) (pos 0)) → part_ok (between low high) count items ≡ (ok && part_ok (between low high) (count - (i + 1)) (drop (i + 1) items))
turn low high count i items ok h e used unused =
    e ∙ part_on (between low high) count i items ok (λ k. sym (used k)) (λ k. eq_z-sym (pos 0) (get_or items i (pos 0)) ∙ sym (unused k)) h

pub loop-i-preserved : goal.loop-i-preserved
loop-i-preserved c =
    let x = get_or c.args.items c.loop-i.i (pos 0) in
    let f : SFits w32 x = search rules in
    let n : length c.args.items ≡ 4 = search rules in
    let i = rw (to_z-of_z c.ranges.low, to_z-of_z c.ranges.high) at c.loop-i.invariant in
    let used : c.loop-i.i < c.args.count → c.if-i-count.ok ≡ between c.args.low c.args.high x = λ k. elim c.if-i-count.branch [ then-i-count w ↦ w.ok-is ∙ w.contains-ok.ensures.value ∙ between_told w.new.result _ _ x (w.new.ensures.start ∙ to_z-of_z c.ranges.low) (w.new.ensures.end ∙ to_z-of_z c.ranges.high) w.new.ensures.exhausted | else-i-count w ↦ absurd (omega (arith, w.if-i-count.false)) ] in
    let unused : c.args.count ≤ c.loop-i.i → c.if-i-count.ok ≡ eq_z x (pos 0) = λ k. elim c.if-i-count.branch [ then-i-count w ↦ absurd (omega (arith, w.if-i-count.true)) | else-i-count w ↦ w.ok-is ∙ bits_test {b = pos 0} f (sfits_lit tt) ] in
    rw (to_z-of_z c.ranges.low, to_z-of_z c.ranges.high) (rw c.if-not-ok.false at (turn c.args.low c.args.high c.args.count c.loop-i.i c.args.items c.if-i-count.ok (omega arith) i used unused))

pub returns-then-not-ok : goal.returns-then-not-ok
returns-then-not-ok c =
    let x = get_or c.args.items c.loop-i.i (pos 0) in
    let n : length c.args.items ≡ 4 = search rules in
    let i = rw (to_z-of_z c.ranges.low, to_z-of_z c.ranges.high) at c.loop-i.invariant in
    let used : c.loop-i.i < c.args.count → c.if-i-count.ok ≡ between c.args.low c.args.high x = λ k. elim c.if-i-count.branch [ then-i-count w ↦ w.ok-is ∙ w.contains-ok.ensures.value ∙ between_told w.new.result _ _ x (w.new.ensures.start ∙ to_z-of_z c.ranges.low) (w.new.ensures.end ∙ to_z-of_z c.ranges.high) w.new.ensures.exhausted | else-i-count w ↦ absurd (omega (arith, w.if-i-count.false)) ] in
    let unused : c.args.count ≤ c.loop-i.i → c.if-i-count.ok ≡ eq_z x (pos 0) = λ k. elim c.if-i-count.branch [ then-i-count w ↦ absurd (omega (arith, w.if-i-count.true)) | else-i-count w ↦ w.ok-is ∙ bits_test {w = w32} {a = x} {b = pos 0} (sfits_of w.ok-1.given) (sfits_lit tt) ] in
    sym (rw c.if-not-ok.true at (turn c.args.low c.args.high c.args.count c.loop-i.i c.args.items c.if-i-count.ok (omega arith) i used unused))

pub returns : goal.returns
returns c =
    let n : length c.args.items ≡ 4 = search rules in
    let i = rw (to_z-of_z c.ranges.low, to_z-of_z c.ranges.high) at c.loop-i.invariant in
    sym (i ∙ part_done (between c.args.low c.args.high) c.args.count c.loop-i.i c.args.items (omega arith))
