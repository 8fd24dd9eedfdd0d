use Rattle.std.proofs.Common.{◌≡◌, ◌+◌, ◌-◌, arith}
use Rattle.largest_pair.proofs.Seen.{block_seen}
use Rattle.largest_pair.proofs.with_block.Goals as goal

pub with_group-kept-requires-clause-group_of : goal.with_group-kept-requires-clause-group_of
with_group-kept-requires-clause-group_of c =
    record { start = c.args.block; block = c.requires.block; group = c.loop-first.first - c.args.block; inside = omega (arith, c.loop-first-test.true); first-is = omega (arith, c.loop-first.auto.first) }

pub returns : goal.returns
returns c =
    let e : c.loop-first.first ≡ c.args.block + c.args.weight = omega (arith, c.loop-first-test.false) in
    block_seen _ _ _ _ _ c.requires.block (rw e at c.loop-first.invariant)
