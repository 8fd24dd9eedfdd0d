-- The order of an array lies in its range.
use mathlib.Core.Path.{sym}
use Rattle.double_array.proofs.DoubleArray.{opened-head}
use Rattle.double_array.proofs.Array.open.Goals as goal

pub order_of-requires : goal.order_of-requires
order_of-requires c = (opened-head c.args.base.now c.args.check.now (sym c.if-not-is_array.ensures)).order
