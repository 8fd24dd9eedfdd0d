-- Before the first node the slices are wiped: nothing is placed. Where all nodes have room, the links go; where they have not, the slices are wiped again.
use mathlib.Core.Path.{◌∙◌}
use native.Mathlib.Omega.{arith}
use Rattle.double_array.proofs.DoubleArray.{sizes_told}
use Rattle.row_nodes.proofs.Turn.{filled-here}
use Rattle.placed_list.proofs.Outcome.{filled_none, list-past, built-accepted, built-refused}
use Rattle.placed_list.proofs.place_list.Goals as goal

pub place_nodes-requires : goal.place_nodes-requires
place_nodes-requires c = filled-here (filled_none c.args.list.table.now c.args.base.now c.args.check.now c.args.work.now c.requires.0 c.requires.1 c.wipe.ensures)

pub returns-in-Ok : goal.returns-in-Ok
returns-in-Ok c =
    let t = c.args.list.table.now in
    let e = rw c.wipe.auto.check at c.in-Ok.ensures in
    let F = e.1.filled e.0 in
    built-accepted t c.args.base.now c.args.check.now c.args.work.now (sizes_told _ _ c.requires.0).same c.requires.1 c.args.list.accepted e.0 e.1
    (c.finish.ensures _ _ _ F.linked (λ u l. list-past t c.args.list.accepted u (omega (arith, e.0, e.1.answer, F.room))))

pub returns-in-Err : goal.returns-in-Err
returns-in-Err c =
    let t = c.args.list.table.now in
    let e = rw c.wipe.auto.check at c.in-Err.ensures in
    let k = c.place_nodes.auto in
    rw (c.into.ensures, e.0)
    (built-refused t c.args.base.now c.args.check.now c.args.work.now (sizes_told _ _ c.requires.0).same c.requires.1 e.1 (k.base ∙ c.wipe.auto.base) (k.check ∙ c.wipe.auto.check) (k.work ∙ c.wipe.auto.work) c.wipe-in-Err.ensures)
