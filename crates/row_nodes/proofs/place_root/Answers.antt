-- The parts handed on are the one-word rows', so the root's turn is the rule's.
use mathlib.Core.Path.{sym, ap, ◌∙◌}
use Prim.Native.Nat.{◌≤◌}
use native.Mathlib.Omega.{arith}
use lib.IntN.{pos}
use lib.ListN.{length}
use lib.Seq.{length-take-le}
use mir.Syntax.{w32}
use mir.Facts.{to_z_pos}
use Rattle.backoff.specs.Limits.{row_limit}
use Rattle.rows.specs.Table.{rows_of}
use Rattle.list.proofs.Check.{accepted-size}
use Rattle.row_nodes.proofs.Parts.{count-rows, child-rows}
use Rattle.row_nodes.proofs.Turn.{root-fits, root_settles, root_tried, tried_within}
use Rattle.row_nodes.proofs.place_root.Goals as goal

pub overflow_cast-node : goal.overflow_cast-node
overflow_cast-node c = record { sfits = omega (arith, c.requires.filled.each, (accepted-size c.args.table.now c.requires.table_value).1) }

pub slice_bounds-place_node-end : goal.slice_bounds-place_node-end
unfolding rows_of
slice_bounds-place_node-end c = sym (length-take-le _ _ (omega (arith, c.rows_below-k.ensures.within)))

pub place_node-top-requires-clause-child_rows : goal.place_node-top-requires-clause-child_rows
place_node-top-requires-clause-child_rows c =
    let t = c.args.table.now in
    let k = c.rows_below-k.result in
    let fits = root-fits t c.requires.table_value c.requires.filled k c.rows_below-k.ensures in
    (child-rows t c.requires.table_value 0 k fits, length-take-le _ _ (omega (arith, c.rows_below-k.ensures.within, c.requires.filled.each)) ∙ sym (count-rows t 0 k fits))

pub place_node-top-requires-clause-by_index : goal.place_node-top-requires-clause-by_index
place_node-top-requires-clause-by_index c = (_, _, _, root_settles c.args.table.now c.requires.table_value c.requires.filled c.rows_below-k.result c.rows_below-k.ensures)

pub returns : goal.returns
returns c =
    let t = c.args.table.now in
    let a = c.requires.table_value in
    let k = c.rows_below-k.result in
    let few : length c.args.work.now ≤ row_limit = omega (arith, c.requires.filled.each, (accepted-size t a).1) in
    tried_within _ _ _ c.place_node-top.auto.check c.top_within.ensures
    (root_tried t a c.requires.filled k c.rows_below-k.ensures (to_z_pos w32 (omega arith) ∙ ap pos c.requires.filled.each) (c.place_node-top.ensures _ _ _ (root_settles t a c.requires.filled k c.rows_below-k.ensures)))
