use mathlib.Core.Path.{◌≡◌, sym, ◌∙◌}
use mathlib.Core.Bool.{Bool, true, false, ◌&&◌}
use mathlib.Core.List.{List}
use Prim.Native.Nat.{ℕ, ◌+◌, ◌*◌, ◌≤◌, ◌<◌}
use native.Mathlib.Omega.{arith}
use lib.Dec.{ltb}
use lib.IntN.{ℤ}
use lib.ListN.{length, get_or, drop}
use Rattle.rows.specs.Table.{length_of}
use Rattle.rows.proofs.Table.{row_in, words-length}
use Rattle.extensions.specs.Stretch.{Stretch}
use Rattle.extensions.proofs.Stretch.{stretch-extended}
use Rattle.double_array.specs.DoubleArray.{marker_at}
use Rattle.node_list.specs.Listed.{is_right}
use Rattle.node_list.specs.Steps.{marks_right}
use Rattle.node_list.proofs.Listed.{right_turn, right_end}
use Rattle.node_list.proofs.are_right.Goals as goal

pub children-from-requires : goal.children-from-requires
children-from-requires c = (row_in c.args.table.now c.loop-i.i (omega (arith, c.requires.few, c.loop-i-test.true)), c.requires.good)

pub length_of-depth-requires : goal.length_of-depth-requires
length_of-depth-requires c = row_in c.args.table.now c.loop-i.i (omega (arith, c.requires.few, c.loop-i-test.true))

module _ (base check t : List ℤ) (marks : List Bool) (work : List ℕ) where
  right_same : (s : ℕ) (f : Bool) {j k : ℕ} {d e : Bool} → j ≡ k → d ≡ e → is_right (marker_at base check j s) d f ≡ is_right (marker_at base check k s) e f
  right_same s f p q = λ i. is_right (marker_at base check (p i) s) (q i) f

  -- row i's turn, and the rest
  turn : (i near to depth : ℕ) (r : Bool) → i < length work → 8 * i + 8 ≤ length t → marks_right base check t marks 0 work ≡ marks_right base check t marks i (drop i work)
      → Stretch t i near to → depth ≡ length_of t i → r ≡ is_right (marker_at base check depth (get_or work i 0)) (ltb near to) (get_or marks i false)
      → marks_right base check t marks 0 work ≡ (r && marks_right base check t marks (i + 1) (drop (i + 1) work))
  turn i near to depth r h k so stretch d e =
      so ∙ right_turn base check t marks work i r (e ∙ right_same (get_or work i 0) (get_or marks i false) (d ∙ sym (words-length t i k)) (sym (stretch-extended t i near to stretch))) h

pub returns-then-not-is_right : goal.returns-then-not-is_right
returns-then-not-is_right c =
    let a = c.args in
    let k = row_in a.table.now c.loop-i.i (omega (arith, c.requires.few, c.loop-i-test.true)) in
    sym (turn a.array.base.now a.array.check.now a.table.now a.marks.now a.work.now c.loop-i.i _ _ c.length_of-depth.result false c.loop-i-test.true k c.loop-i.invariant c.children-from.ensures c.length_of-depth.ensures.0 (sym c.if-not-is_right.true ∙ c.is_right.ensures))

pub loop-i-preserved : goal.loop-i-preserved
loop-i-preserved c =
    let a = c.args in
    let k = row_in a.table.now c.loop-i.i (omega (arith, c.requires.few, c.loop-i-test.true)) in
    turn a.array.base.now a.array.check.now a.table.now a.marks.now a.work.now c.loop-i.i _ _ c.length_of-depth.result true c.loop-i-test.true k c.loop-i.invariant c.children-from.ensures c.length_of-depth.ensures.0 (sym c.if-not-is_right.false ∙ c.is_right.ensures)

pub returns : goal.returns
returns c =
    let a = c.args in
    sym (c.loop-i.invariant ∙ right_end a.array.base.now a.array.check.now a.table.now a.marks.now a.work.now c.loop-i.i c.loop-i-test.false)
