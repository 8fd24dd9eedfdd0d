-- Lengths that an array can have reach to slot 1.
use mathlib.Core.Path.{sym}
use native.Mathlib.Omega.{arith}
use Rattle.double_array.proofs.DoubleArray.{sizes_told}
use Rattle.double_array.proofs.is_array.Goals as goal

pub head_ok-requires-clause-in_bounds : goal.head_ok-requires-clause-in_bounds
head_ok-requires-clause-in_bounds c = let z = sizes_told c.args.base.now c.args.check.now (sym c.if-sizes_ok.ensures) in omega arith

pub head_ok-requires-clause-in_bounds_2 : goal.head_ok-requires-clause-in_bounds_2
head_ok-requires-clause-in_bounds_2 c = let z = sizes_told c.args.base.now c.args.check.now (sym c.if-sizes_ok.ensures) in omega arith
