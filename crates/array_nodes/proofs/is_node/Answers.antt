use Rattle.std.proofs.Common.{◌≡◌, ◌+◌, arith, sym}
use mathlib.Core.Bool.{false≢true}
use Rattle.double_array.specs.DoubleArray.{order_in}
use Rattle.double_array.proofs.DoubleArray.{opened-sizes, opened-order}
use Rattle.array_nodes.proofs.Climb.{child_climbs, rise_start, rise_step, rise_none, rise_long, rise_end}
use Rattle.array_nodes.proofs.is_node.Goals as goal

pub loop-init : goal.loop-init
loop-init c = (λ e. omega (arith, e), omega arith, rise_start _ _ _)

pub returns-in_default : goal.returns-in_default
returns-in_default c = record {
  yes = λ e. absurd (false≢true e);
  no = λ _. rise_none _ _ _ c.loop.s c.loop.counter c.loop.invariant.0 c.in_default.ensures c.loop.invariant.2;
}

pub returns-then-above-eq0 : goal.returns-then-above-eq0
returns-then-above-eq0 c =
    let a = c.args.array in
    let r = rise_step a.base.now a.check.now c.args.t c.loop.s c.loop.counter c.in-Some.above _ c.loop.invariant.0 c.in-Some.ensures.1 c.loop.invariant.2 in
    record {
      yes = λ _. rise_end _ _ _ (c.loop.counter + 1) (omega arith) (omega (arith, a.order_is, c.loop-test.true)) (opened-order _ _ a.is_array).1 (rw c.if-above-eq0.true at r);
      no = λ e. absurd (false≢true (sym e));
    }

pub loop-preserved : goal.loop-preserved
loop-preserved c =
    let a = c.args.array in
    let k = child_climbs a.base.now a.check.now c.in-Some.above _ c.loop.s c.in-Some.ensures.1 in
    let z = opened-sizes _ _ a.is_array in
    (c.if-above-eq0.false, omega (arith, k.parent-inside, z.same), rise_step _ _ _ c.loop.s c.loop.counter c.in-Some.above _ c.loop.invariant.0 c.in-Some.ensures.1 c.loop.invariant.2)

pub returns : goal.returns
returns c =
    let a = c.args.array in
    let e : c.loop.counter ≡ order_in a.check.now = omega (arith, a.order_is, c.loop-test.false, c.loop.auto.counter-end) in
    record {
      yes = λ e. absurd (false≢true e);
      no = λ _. rise_long a.base.now a.check.now c.args.t c.loop.s c.loop.invariant.0 (rw e at c.loop.invariant.2);
    }
