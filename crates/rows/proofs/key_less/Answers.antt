-- The high parts decide, then the low ones.
use Rattle.std.proofs.Common.{arith}
use Rattle.rows.proofs.Keys.{parts_less}
use Rattle.rows.proofs.key_less.Goals as goal

pub returns : goal.returns
returns c = parts_less c.args.a.high c.args.a.low c.args.b.high c.args.b.low (omega arith) (omega arith)
