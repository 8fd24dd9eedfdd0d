-- `columns::put_column`: the spaces, and the number behind them.
use Rattle.std.proofs.Common.{sym, ◌∙◌, arith}
use Rattle.columns.specs.Columns.{signed}
use Rattle.columns.proofs.Columns.{length-justified, sets-justified}
use Rattle.columns.proofs.put_column.Goals as goal

pub put_spaces-start-requires : goal.put_spaces-start-requires
put_spaces-start-requires c =
    let a = c.args in
    omega (arith, length-justified a.width (signed a.negative a.size), c.signed_length-taken.ensures)

pub put_signed-requires : goal.put_signed-requires
put_signed-requires c =
    let a = c.args in
    omega (arith, length-justified a.width (signed a.negative a.size), c.signed_length-taken.ensures, c.put_spaces-start.ensures.place)

pub returns-clause-place : goal.returns-clause-place
returns-clause-place c =
    let a = c.args in
    omega (arith, length-justified a.width (signed a.negative a.size), c.signed_length-taken.ensures, c.put_spaces-start.ensures.place, c.put_signed.ensures.place)

pub returns-clause-text : goal.returns-clause-text
returns-clause-text c =
    let a = c.args in
    c.put_signed.ensures.text
    ∙ rw (c.put_spaces-start.ensures.text, c.put_spaces-start.ensures.place, c.signed_length-taken.ensures) (sym (sets-justified a.out.now a.at a.width (signed a.negative a.size)))
