-- The five places are the row's words, zeros past the last.
use Rattle.rows.proofs.Good.{row-key}
use Rattle.rows.proofs.row_key.Goals as goal

pub returns : goal.returns
returns c = cc (row-key c.args.table.now c.args.i c.requires.1)
