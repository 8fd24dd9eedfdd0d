use Rattle.std.proofs.Common.{◌≡◌, ◌<◌, length, take, refl, arith}
use native.Mathlib.Numerals.{add-one}
use lib.ListN.{length-take}
use lib.Seq.{take-suc-set, take_all}
use Rattle.double_array.proofs.DoubleArray.{opened-sizes}
use Rattle.array_nodes.proofs.Gathering.{below-start, below_pass, below_more, below-above, below_end, below-few}
use Rattle.array_nodes.proofs.gather.Goals as goal
use Rattle.array_nodes.proofs.gather.Goals.{then-is_node+else-k-work, else-is_node}

pub loop-t-init : goal.loop-t-init
loop-t-init c = (omega arith, below-start _ _ c.args.array.is_array)

pub returns-then-k-work : goal.returns-then-k-work
returns-then-k-work c =
    let a = c.args.array in
    let x : take c.loop-t.k c.loop-t.work ≡ c.loop-t.work = take_all c.loop-t.k c.loop-t.work (omega arith) in
    (refl, below-above a.base.now a.check.now a.is_array c.loop-t.work c.loop-t.t (rw x at c.loop-t.invariant.1) (c.is_node.ensures.yes c.if-is_node.true))

pub overflow_cast-work : goal.overflow_cast-work
overflow_cast-work c = let z = opened-sizes _ _ c.args.array.is_array in omega (arith, z.same, z.high, c.loop-t-test.true)

pub loop-t-preserved : goal.loop-t-preserved
loop-t-preserved c =
    let a = c.args.array in
    let k = c.loop-t.k in
    elim c.if-is_node.branch [
      | then-is_node+else-k-work w ↦
          let h : k < length c.loop-t.work = (let n = w.if-k-work.false in omega (arith, c.loop-t.invariant.0)) in
          (omega (arith, c.if-is_node.auto.work, w.k-is), rw (w.work-is, w.k-is, add-one, take-suc-set c.loop-t.work k c.loop-t.t h) (below_more a.base.now a.check.now a.is_array (take k c.loop-t.work) c.loop-t.t c.loop-t.invariant.1 (c.is_node.ensures.yes w.if-is_node.true)))
      | else-is_node w ↦
          (omega (arith, c.if-is_node.auto.work, w.k-is, c.loop-t.invariant.0), rw (w.work-is, w.k-is) (below_pass a.base.now a.check.now a.is_array (take k c.loop-t.work) c.loop-t.t c.loop-t.invariant.1 (c.is_node.ensures.no w.if-is_node.false)))
    ]

pub returns-then-k-work-2 : goal.returns-then-k-work-2
returns-then-k-work-2 c =
    let a = c.args.array in
    (refl, λ e. omega (arith, below-few a.base.now a.check.now a.is_array (take c.loop-t.k c.loop-t.work) c.loop-t.t c.loop-t-test.false c.loop-t.invariant.1, length-take c.loop-t.k c.loop-t.work, c.if-k-work-2.true))

pub returns : goal.returns
returns c =
    let a = c.args.array in
    let x : take c.loop-t.k c.loop-t.work ≡ c.loop-t.work = take_all c.loop-t.k c.loop-t.work c.if-k-work-2.false in
    below_end a.base.now a.check.now a.is_array c.loop-t.work c.loop-t.t c.loop-t-test.false (rw x at c.loop-t.invariant.1)
