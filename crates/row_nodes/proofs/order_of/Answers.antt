-- The order is the length of the last row.
use native.Mathlib.Omega.{arith}
use Rattle.rows.specs.Table.{rows_of, order_of}
use Rattle.list.proofs.Check.{accepted-size}
use Rattle.row_nodes.proofs.order_of.Goals as goal

pub overflow_sub-table : goal.overflow_sub-table
unfolding rows_of
overflow_sub-table c = (accepted-size c.args.table.now c.requires).0

pub length_of-requires : goal.length_of-requires
unfolding rows_of
length_of-requires c = omega (arith, (accepted-size c.args.table.now c.requires).0)

pub returns : goal.returns
unfolding order_of rows_of
returns c = c.length_of.ensures
