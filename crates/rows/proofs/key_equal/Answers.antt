-- Both parts are equal.
use Rattle.std.proofs.Common.{arith}
use Rattle.rows.proofs.Keys.{parts_equal}
use Rattle.rows.proofs.key_equal.Goals as goal

pub returns : goal.returns
returns c = parts_equal c.args.a.high c.args.a.low c.args.b.high c.args.b.low (omega arith) (omega arith)
