use Rattle.std.proofs.Common.{◌∙◌, sym, arith, refl}
use Rattle.double_array.specs.DoubleArray.{store_in}
use Rattle.double_array.proofs.DoubleArray.{opened_some, opened-order}
use Rattle.score.proofs.check_run.Goals as goal

pub passes-requires : goal.passes-requires
passes-requires c = omega (arith, opened-order c.args.array.base.now c.args.array.check.now c.args.array.is_array, c.args.array.order_is)

pub returns-then-not-passes : goal.returns-then-not-passes
unfolding store_in
returns-then-not-passes c =
    let e = rw (c.args.array.order_is) at (sym c.passes.ensures ∙ c.if-not-passes.true) in
    rw (opened_some c.args.array.base.now c.args.array.check.now c.args.array.is_array, e) refl

pub returns : goal.returns
unfolding store_in
returns c =
    let e = rw (c.args.array.order_is) at (sym c.passes.ensures ∙ c.if-not-passes.false) in
    rw (opened_some c.args.array.base.now c.args.array.check.now c.args.array.is_array, e) c.check_sizes.ensures
