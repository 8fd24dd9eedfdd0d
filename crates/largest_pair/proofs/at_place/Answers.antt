use Rattle.std.proofs.Common.{◌≡◌, ◌+◌, length, arith}
use Rattle.largest_pair.proofs.Seen.{block_at, place_seen}
use Rattle.largest_pair.proofs.at_place.Goals as goal

pub with_block-kept-requires-clause-block : goal.with_block-kept-requires-clause-block
with_block-kept-requires-clause-block c = block_at _ _ _ c.loop-block.invariant.number _ c.requires.place c.loop-block.invariant.at c.loop-block-test.true

pub loop-block-preserved : goal.loop-block-preserved
loop-block-preserved c =
    let b = block_at _ _ _ c.loop-block.invariant.number _ c.requires.place c.loop-block.invariant.at c.loop-block-test.true in
    record { number = c.loop-block.invariant.number + 1; at = omega (arith, c.loop-block.invariant.at); within = b.inside; so_far = c.with_block-kept.ensures }

pub returns : goal.returns
returns c =
    let e : c.loop-block.block ≡ length c.args.totals.now = omega (arith, c.loop-block.invariant.within, c.loop-block-test.false) in
    place_seen _ _ c.requires.place.place _ _ c.requires.place.two c.requires.place.weight_is (rw e at c.loop-block.invariant.so_far)
