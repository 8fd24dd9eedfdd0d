-- The bytes before this one are counted.
use Rattle.std.proofs.Common.{◌≡◌, List, ℕ, ◌+◌, ◌++◌, length, take}
use Rattle.backoff.specs.Limits.{run_limit}
use Rattle.stretches.specs.Inner.{Tallied}
use Rattle.stretches.proofs.Counters.{Small}
use Rattle.batch.proofs.count_words.Given as goal

abbrev pub invariant-loop-byte : goal.invariant-loop-byte
invariant-loop-byte l =
    record {
      eight : length l.counts.matched ≡ 8;
      small : Small l.counts (run_limit + l.byte-index);
      tallied : (bytes words : List ℕ) → Tallied bytes words l.initial.counts → Tallied (bytes ++ take l.byte-index l.lengths) (words ++ take l.byte-index l.lengths) l.counts;
    }
