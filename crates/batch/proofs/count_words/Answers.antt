use Rattle.std.proofs.Common.{arith, ◌≡◌, ◌+◌}
use mathlib.Core.List.{append-nil}
use lib.Seq.{take_all}
use Rattle.backoff.specs.Limits.{run_limit}
use Rattle.stretches.proofs.Counters.{counted-long, counted_small}
use Rattle.batch.proofs.Inner.{tally-more}
use Rattle.batch.proofs.count_words.Goals as goal

pub loop-byte-init : goal.loop-byte-init
loop-byte-init c =
    record {
      eight = c.requires.counters;
      small = record { matched = λ k. omega (arith, c.requires.small.1.0 k); unknown = omega (arith, c.requires.small.1.1) };
      tallied = λ bytes words t. rw (append-nil bytes, append-nil words) t;
    }

pub loop-byte-preserved : goal.loop-byte-preserved
loop-byte-preserved c =
    let v = c.loop-byte.invariant in
    let e : run_limit + (c.loop-byte.byte-index + 1) ≡ run_limit + c.loop-byte.byte-index + 1 = omega arith in
    rw (c.count_byte.ensures, e)
    (record {
      eight = counted-long _ c.loop-byte.counts v.eight;
      small = counted_small _ c.loop-byte.counts v.eight _ v.small;
      tallied = λ bytes words t. tally-more c.args.lengths.now bytes words c.loop-byte.byte-index c.loop-byte.counts c.loop-byte-test.true (v.tallied bytes words t);
    })

pub returns : goal.returns
returns c = λ bytes words t. rw (take_all c.loop-byte.byte-index c.args.lengths.now c.loop-byte-test.false) at (c.loop-byte.invariant.tallied bytes words t)
