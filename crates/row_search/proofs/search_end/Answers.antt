-- The row at `to` is above k.
use Rattle.std.proofs.Common.{◌<◌, arith}
use Rattle.std.proofs.lemmas.Bool.Decides.{nat_tests}
use Rattle.rows.specs.Table.{rows_of}
use Rattle.rows.specs.Keys.{row_key, key_of}
use Rattle.row_search.proofs.ByKey.{window_end}
use Rattle.row_search.proofs.search_end.Goals as goal

pub returns-then-key_less : goal.returns-then-key_less
unfolding rows_of
returns-then-key_less c =
    let k = key_of c.args.k.high c.args.k.low in
    let above : k < row_key c.args.table.now c.args.to = grind (arith, nat_tests) in
    window_end c.args.table.now c.requires k c.args.to c.if-rows-to.false above
