use mathlib.Core.Path.{refl}
use native.Mathlib.Omega.{arith}
use lib.ListN.{length-take, length-drop}
use Rattle.std.proofs.lemmas.Result.{err_from_is_err_and}
use Rattle.integer.proofs.Items.{get_or_in}
use Rattle.array_nodes.specs.Gathering.{nodes_at}
use Rattle.node_rows.specs.Rows.{table_of}
use Rattle.node_rows.proofs.Written.{rows_more}
use Rattle.node_rows.proofs.write_rows.Goals as goal

pub loop-i-init : goal.loop-i-init
unfolding table_of nodes_at
loop-i-init c = refl

pub write_row-requires : goal.write_row-requires
write_row-requires c =
    let i = c.loop-i.i in
    (c.requires.0 _ (get_or_in c.args.work.now i 0 c.loop-i-test.true), rw (length-take, length-drop) (omega (arith, c.loop-i-test.true, c.requires.1, c.loop-i.auto.table)))

pub returns-in_err-write_row : goal.returns-in_err-write_row
returns-in_err-write_row c =
    let p = err_from_is_err_and c.from_residual.result c.from_residual.ensures.1 in
    let broken = c.in_err-write_row.ensures in
    rw (p.1, p.2) (broken.0, (_, get_or_in c.args.work.now c.loop-i.i 0 c.loop-i-test.true, broken.1))

pub loop-i-preserved : goal.loop-i-preserved
loop-i-preserved c =
    let a = c.args.array in
    rows_more a.base.now a.check.now c.args.work.now c.loop-i.table c.write_row.new.row _ c.loop-i.i c.loop-i-test.true (omega (arith, c.loop-i-test.true, c.requires.1, c.loop-i.auto.table)) c.in_ok-write_row.ensures c.loop-i.invariant
