-- Measure: the history's length.
use Rattle.std.proofs.Common.{length}
use Rattle.plain_word.proofs.+score_after.Given as goal

abbrev pub decreases-score_after : goal.decreases-score_after
decreases-score_after l = length l.history.now
