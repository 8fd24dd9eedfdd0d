-- No word above k in any index of this table and store has the text. Assumes nothing.
use Rattle.std.proofs.Common.{ℕ}
use Rattle.word_index.specs.Index.{Indexed}
use Rattle.word_index.proofs.Indexes.{Following}
use Rattle.word_index.proofs.find_word.Given as goal

abbrev pub invariant-loop-k : goal.invariant-loop-k
invariant-loop-k l = (words : ℕ) → Indexed l.table l.store l.buckets words → Following l.store l.buckets words l.text l.k

abbrev pub decreases-loop-k : goal.decreases-loop-k
decreases-loop-k l = l.k
