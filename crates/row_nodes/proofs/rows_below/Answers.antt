use native.Mathlib.Omega.{arith}
use Rattle.rows.specs.Table.{rows_of}
use Rattle.row_nodes.proofs.RowLengths.{rows-below}
use Rattle.row_nodes.proofs.rows_below.Goals as goal

pub returns-then-m-length_of : goal.returns-then-m-length_of
unfolding rows_of
returns-then-m-length_of c = rows-below _ c.requires _ _ (omega (arith, c.loop-k-test.true)) c.loop-k.invariant (λ h. omega (arith, c.if-m-length_of.true, c.length_of.ensures.0))

pub returns : goal.returns
unfolding rows_of
returns c = rows-below _ c.requires _ _ (omega arith) (λ j h. c.loop-k.invariant j (omega (arith, c.loop-k-test.false))) (λ h. absurd (omega arith))
