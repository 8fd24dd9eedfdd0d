-- The parts handed on are the children's, so the node's turn is the rule's.
use mathlib.Core.Path.{◌≡◌}
use mathlib.Core.List.{List}
use Prim.Native.Nat.{ℕ, ◌+◌, ◌*◌, ◌-◌, ◌≤◌}
use native.Mathlib.Omega.{arith}
use lib.IntN.{ℤ}
use lib.ListN.{length, take, drop, length-drop}
use lib.Seq.{length-take-le}
use Rattle.rows.specs.Table.{rows_of}
use Rattle.extensions.specs.Stretch.{Stretch}
use Rattle.first_fit.specs.Steps.{Settles}
use Rattle.row_nodes.specs.Steps.{placed_nodes}
use Rattle.row_nodes.proofs.Parts.{part_rows, count-rows, child-rows}
use Rattle.row_nodes.proofs.Turn.{row_fits, row_settles, row_tried, tried_within}
use Rattle.row_nodes.proofs.place_row.Goals as goal

bounds : (t : List ℤ) (i from to : ℕ) → Stretch t i from to → (from ≤ to) × (8 * to ≤ length t)
unfolding rows_of
bounds t i from to S = (S.order, omega (arith, S.within))

rows_are : (t : List ℤ) (from to : ℕ) → from ≤ to → take (8 * to - 8 * from) (drop (8 * from) t) ≡ part_rows t from (to - from)
rows_are t from to h = let e : 8 * to - 8 * from ≡ 8 * (to - from) = omega arith in rw e

pub offset_bounds-list-first : goal.offset_bounds-list-first
offset_bounds-list-first c = let b = bounds _ _ _ _ c.requires.row.3 in omega (arith, c.ranges.list)

pub slice_bounds-rows-end : goal.slice_bounds-rows-end
slice_bounds-rows-end c = (bounds _ _ _ _ c.requires.row.3).1

pub place_node-top-requires-clause-child_rows : goal.place_node-top-requires-clause-child_rows
place_node-top-requires-clause-child_rows c =
    let t = c.args.list.table.now in
    let from = c.args.children.from in
    let to = c.args.children.to in
    let S = c.requires.row.3 in
    let b = bounds t c.args.i from to S in
    let fits = row_fits t c.args.list.accepted c.args.i c.requires.row.0 c.requires.filled from to S in
    (rw (rows_are t from to b.0) (child-rows t c.args.list.accepted from (to - from) fits), rw (rows_are t from to b.0, count-rows t from (to - from) fits) (length-take-le _ _ (rw length-drop (omega (arith, b, S.within, c.requires.filled.each)))))

pub place_node-top-requires-clause-by_index : goal.place_node-top-requires-clause-by_index
place_node-top-requires-clause-by_index c =
    let t = c.args.list.table.now in
    let from = c.args.children.from in
    let to = c.args.children.to in
    let S = c.requires.row.3 in
    let e = c.row_node-node.ensures in
    let settles : Settles (length c.args.check.now) (placed_nodes t (c.args.i + 1)).base (placed_nodes t (c.args.i + 1)).check c.args.base.now c.args.check.now (take (8 * to - 8 * from) (drop (8 * from) t)) c.row_node-node.result.slot c.row_node-node.result.mark =
    rw (rows_are t from to S.order) (row_settles t c.args.list.accepted c.args.i c.requires.row.0 c.requires.filled from to S e.0 e.1) in
    (_, _, _, settles)

pub returns : goal.returns
returns c =
    let t = c.args.list.table.now in
    let from = c.args.children.from in
    let to = c.args.children.to in
    let S = c.requires.row.3 in
    let n = c.row_node-node.ensures in
    let e = rows_are t from to S.order in
    let settles : Settles (length c.args.check.now) (placed_nodes t (c.args.i + 1)).base (placed_nodes t (c.args.i + 1)).check c.args.base.now c.args.check.now (take (8 * to - 8 * from) (drop (8 * from) t)) c.row_node-node.result.slot c.row_node-node.result.mark =
    rw e (row_settles t c.args.list.accepted c.args.i c.requires.row.0 c.requires.filled from to S n.0 n.1) in
    tried_within _ _ _ c.place_node-top.auto.check c.top_within.ensures
    (row_tried t c.args.list.accepted c.args.i c.requires.row.0 c.requires.filled from to S c.requires.row.1 c.requires.row.2 n.0 n.1 (c.args.list.flags.mark c.args.i c.requires.row.0) n.2
    (rw e at (c.place_node-top.ensures _ _ _ settles)))
