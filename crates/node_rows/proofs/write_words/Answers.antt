use mathlib.Core.Path.{◌≡◌, ap, ◌∙◌}
use mathlib.Core.List.{List}
use Prim.Native.Nat.{ℕ}
use native.Mathlib.Omega.{arith}
use borrow.Author.Rules.{rules}
use lib.ListN.{get_or}
use lib.IntN.{ℤ, pos, nat_abs}
use lib.Signed.{◌≤ℤ◌}
use mir.Syntax.{w32}
use mir.Val.{SFits, to_z, of_z}
use mir.Facts.{to_z-of_z, to_z_pos}
use Rattle.integer.proofs.Arithmetic.{zarith, to_nat}
use Rattle.integer.proofs.Items.{get_or-inside}
use Rattle.child_slots.specs.Children.{free_check, word_at}
use Rattle.double_array.proofs.DoubleArray.{opened-sizes, opened-order}
use Rattle.array_nodes.proofs.Climb.{Step, climb-step}
use Rattle.node_rows.proofs.Placing.{placed-start, placed-none, placed-word, placed_end}
use Rattle.node_rows.proofs.write_words.Goals as goal

module _ (base check : List ℤ) (s : ℕ) (d : Step base check s) where
  -- CHECK of the slot, as it is read
  read_is : get_or check s (pos 0) ≡ get_or check s free_check
  read_is = get_or-inside check s (pos 0) free_check d.climbs.inside

  natural : pos 0 ≤ℤ get_or check s (pos 0)
  natural = rw read_is d.climbs.natural

  module _ (f : SFits w32 (get_or check s (pos 0))) where
    -- the slot above
    up_is : nat_abs (to_z w32 (of_z w32 (get_or check s (pos 0)))) ≡ nat_abs (get_or check s free_check)
    up_is = ap nat_abs (to_z-of_z f ∙ read_is)

    -- BASE there
    base_is : get_or base (nat_abs (to_z w32 (of_z w32 (get_or check s (pos 0))))) (pos 0) ≡ get_or base (nat_abs (get_or check s free_check)) (pos 0)
    base_is = ap (λ (i : ℕ). get_or base i (pos 0)) up_is

    word_is : (n : ℕ) → SFits w32 (get_or base (nat_abs (to_z w32 (of_z w32 (get_or check s (pos 0))))) (pos 0))
        → n ≡ word_at (nat_abs (to_z w32 (of_z w32 (get_or base (nat_abs (to_z w32 (of_z w32 (get_or check s (pos 0))))) (pos 0))))) s → n ≡ d.word
    word_is n g e = e ∙ ap (λ (x : ℕ). word_at x s) (ap nat_abs (to_z-of_z g ∙ base_is)) ∙ d.climbs.word

pub loop-j-init : goal.loop-j-init
loop-j-init c = placed-start _ _ _ _ c.requires.0.leads c.requires.1

pub loop-j-preserved-then-s-eq0 : goal.loop-j-preserved-then-s-eq0
loop-j-preserved-then-s-eq0 c =
    let a = c.args.array in
    let e : c.loop-j.s ≡ 0 = c.if-s-eq0.true in
    rw e (placed-none a.base.now a.check.now c.args.t c.loop-j.m c.loop-j.j c.loop-j.row c.loop-j-test.true (rw e at c.loop-j.invariant))

pub offset_bounds-array-s : goal.offset_bounds-array-s
offset_bounds-array-s c =
    let a = c.args.array in
    let d = climb-step a.base.now a.check.now c.loop-j.s c.if-s-eq0.false c.loop-j.invariant.leads in
    let z = opened-sizes a.base.now a.check.now a.is_array in
    omega (arith, d.climbs.inside, z.same, z.high)

pub bounds-array-s : goal.bounds-array-s
bounds-array-s c = (climb-step c.args.array.base.now c.args.array.check.now c.loop-j.s c.if-s-eq0.false c.loop-j.invariant.leads).climbs.inside

pub overflow_cast-p : goal.overflow_cast-p
overflow_cast-p c =
    let a = c.args.array in
    let d = climb-step a.base.now a.check.now c.loop-j.s c.if-s-eq0.false c.loop-j.invariant.leads in
    let f : SFits w32 (get_or a.check.now c.loop-j.s (pos 0)) = search rules in
    to_nat tt f (natural a.base.now a.check.now c.loop-j.s d)

pub bounds-array-p : goal.bounds-array-p
bounds-array-p c =
    let a = c.args.array in
    let d = climb-step a.base.now a.check.now c.loop-j.s c.if-s-eq0.false c.loop-j.invariant.leads in
    let f : SFits w32 (get_or a.check.now c.loop-j.s (pos 0)) = search rules in
    rw (up_is a.base.now a.check.now c.loop-j.s d f) d.climbs.parent-inside

pub overflow_cast-array : goal.overflow_cast-array
overflow_cast-array c =
    let a = c.args.array in
    let d = climb-step a.base.now a.check.now c.loop-j.s c.if-s-eq0.false c.loop-j.invariant.leads in
    let f : SFits w32 (get_or a.check.now c.loop-j.s (pos 0)) = search rules in
    let g : SFits w32 (get_or a.base.now (nat_abs (to_z w32 (of_z w32 (get_or a.check.now c.loop-j.s (pos 0))))) (pos 0)) = search rules in
    to_nat tt g (let e = base_is a.base.now a.check.now c.loop-j.s d f in omega (zarith, d.climbs.base-least))

pub overflow_cast-row : goal.overflow_cast-row
overflow_cast-row c =
    let a = c.args.array in
    let d = climb-step a.base.now a.check.now c.loop-j.s c.if-s-eq0.false c.loop-j.invariant.leads in
    let f : SFits w32 (get_or a.check.now c.loop-j.s (pos 0)) = search rules in
    let g : SFits w32 (get_or a.base.now (nat_abs (to_z w32 (of_z w32 (get_or a.check.now c.loop-j.s (pos 0))))) (pos 0)) = search rules in
    let e = word_is a.base.now a.check.now c.loop-j.s d f c.word_at.result g c.word_at.ensures in
    omega (zarith, d.climbs.most)

pub loop-j-preserved : goal.loop-j-preserved
loop-j-preserved c =
    let a = c.args.array in
    let d = climb-step a.base.now a.check.now c.loop-j.s c.if-s-eq0.false c.loop-j.invariant.leads in
    let f : SFits w32 (get_or a.check.now c.loop-j.s (pos 0)) = search rules in
    let g : SFits w32 (get_or a.base.now (nat_abs (to_z w32 (of_z w32 (get_or a.check.now c.loop-j.s (pos 0))))) (pos 0)) = search rules in
    let m = d.climbs.most in
    rw (word_is a.base.now a.check.now c.loop-j.s d f c.word_at.result g c.word_at.ensures, to_z_pos w32 {n = d.word} (omega arith), up_is a.base.now a.check.now c.loop-j.s d f)
    (placed-word a.base.now a.check.now c.args.t c.loop-j.s c.loop-j.m c.loop-j.j c.loop-j.row c.loop-j-test.true d c.loop-j.invariant)

pub returns : goal.returns
returns c =
    let a = c.args.array in
    let h = opened-order a.base.now a.check.now a.is_array in
    placed_end a.base.now a.check.now c.args.t c.loop-j.s c.loop-j.m c.loop-j.j c.loop-j.row (omega (arith, c.requires.0.few, h.1)) c.loop-j-test.false c.loop-j.invariant
