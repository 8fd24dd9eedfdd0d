-- No row passed needs a row whose p is out of range.
use Rattle.std.proofs.Common.{sym, ◌∙◌, arith, below_more}
use Rattle.rows.specs.Table.{rows_of}
use Rattle.row_ends.proofs.Needed.{fault-zero, fault-one}
use Rattle.row_ends.proofs.first_needing.Goals as goal

pub all_addable-requires : goal.all_addable-requires
unfolding rows_of
all_addable-requires c = (c.requires, c.loop-i-test.true)

pub returns-then-not-all_addable : goal.returns-then-not-all_addable
unfolding rows_of
returns-then-not-all_addable c =
    let five = fault-one _ c.loop-i.i (sym c.all_addable.ensures ∙ c.if-not-all_addable.true) in
    (c.loop-i-test.true, record { within = omega arith; none = c.loop-i.invariant; one = λ _. five })

pub loop-i-preserved : goal.loop-i-preserved
loop-i-preserved c = below_more _ _ c.loop-i.invariant (fault-zero _ c.loop-i.i (sym c.all_addable.ensures ∙ c.if-not-all_addable.false))

pub returns : goal.returns
unfolding rows_of
returns c = record { within = omega arith; none = λ j l. c.loop-i.invariant j (omega arith); one = λ l. absurd (omega arith) }
