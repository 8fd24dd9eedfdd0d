use Rattle.std.proofs.Common.{arith}
use Rattle.double_array.proofs.DoubleArray.{opened-order}
use Rattle.score.proofs.start_in.Goals as goal

pub unpack-requires : goal.unpack-requires
unpack-requires c =
    let h = c.begin.ensures.carries c.in_ok-begun.begun c.in_ok-begun.ensures.ok_part in
    omega (arith, h.few, opened-order c.args.array.base.now c.args.array.check.now c.args.array.is_array)
