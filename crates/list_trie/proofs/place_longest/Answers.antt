use mathlib.Core.Path.{◌≡◌, refl, sym, ap, ◌∙◌}
use Prim.Native.Nat.{ℕ, ◌+◌, ◌<◌}
use native.Mathlib.Numerals.{add-one}
use native.Mathlib.Omega.{arith}
use borrow.Author.Rules.{rules}
use lib.Dec.{lit<}
use mir.Syntax.{w32}
use mir.Val.{SFits}
use mir.Facts.{to_z-of_z}
use Rattle.rows.specs.Table.{rows_of}
use Rattle.rows.proofs.Table.{row_in}
use Rattle.list.proofs.Check.{accepted-row}
use Rattle.markers.specs.Markers.{marker_check}
use Rattle.row_nodes.proofs.Turn.{row-held, row-taken, row-bare, row-top}
use Rattle.list_trie.proofs.RowLengths.{longest-row}
use Rattle.list_trie.proofs.NodeByNode.{all_placed}
use Rattle.list_trie.proofs.place_longest.Goals as goal

pub loop-i-init : goal.loop-i-init
loop-i-init c = (refl, λ N check F. F)

pub field-requires : goal.field-requires
field-requires c = (row_in c.args.list.table.now c.loop-i.i (omega (arith, c.loop-i-test.true, c.requires.by_index.2.each)), lit< tt)

pub marker_check-mark-requires : goal.marker_check-mark-requires
marker_check-mark-requires c =
    let f : SFits w32 c.field.result = search rules in
    let h : c.loop-i.i < rows_of c.args.list.table.now = omega (arith, c.loop-i-test.true, c.requires.by_index.2.each) in
    rw (to_z-of_z f, c.field.ensures) (accepted-row c.args.list.table.now c.args.list.accepted c.loop-i.i h).fields.probability

pub set_base-requires : goal.set_base-requires
set_base-requires c =
    let h : c.loop-i.i < rows_of c.args.list.table.now = omega (arith, c.loop-i-test.true, c.requires.by_index.2.each) in
    row-held c.args.list.table.now c.args.list.accepted c.loop-i.i h (c.loop-i.invariant.1 _ _ c.requires.by_index.2) _ refl

pub loop-i-preserved : goal.loop-i-preserved
loop-i-preserved c =
    let t = c.args.list.table.now in
    let a = c.args.list.accepted in
    let i = c.loop-i.i in
    let f : SFits w32 c.field.result = search rules in
    let g : SFits w32 c.marker_check-mark.result = search rules in
    let h : i < rows_of t = omega (arith, c.loop-i-test.true, c.requires.by_index.2.each) in
    let held = c.loop-i.invariant.1 _ _ c.requires.by_index.2 in
    let longest = longest-row t a c.args.first c.requires.table_value i c.loop-i.auto.i h in
    let mark = to_z-of_z g ∙ c.marker_check-mark.ensures ∙ ap marker_check (to_z-of_z f ∙ c.field.ensures) in (
      rw (add-one (i + 1)) (row-top t a i h held longest ∙ c.loop-i.invariant.0),
      λ N check F.
          let G = c.loop-i.invariant.1 N check F in
          rw (add-one (i + 1)) (row-bare t a i h G longest refl mark (c.set_base.ensures N _ _ check G.linked (row-taken t a i h G _ refl))),
    )

pub returns : goal.returns
returns c = λ N check F.
    let t = c.args.list.table.now in
    let e : c.loop-i.i ≡ rows_of t = omega (arith, c.loop-i-test.false, c.loop-i.auto, c.requires.table_value.within, F.each) in
    all_placed (c.loop-i.i + 1) (ap (λ (x : ℕ). x + 1) e ∙ add-one (rows_of t)) (sym c.loop-i.invariant.0) (c.loop-i.invariant.1 N check F)
