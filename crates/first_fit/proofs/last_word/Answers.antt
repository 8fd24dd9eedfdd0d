-- The last row's word is a child's; where there is none, word 0 stands for d.
use native.Mathlib.Omega.{arith}
use Rattle.rows.specs.Table.{rows_of}
use Rattle.first_fit.proofs.OldestWords.{child-first, d_first, reach-ahead, reach-none}
use Rattle.first_fit.proofs.last_word.Goals as goal

pub returns-then-count-eq0 : goal.returns-then-count-eq0
unfolding rows_of
returns-then-count-eq0 c = let rows = c.args.rows.now in record { word = omega arith; same = d_first rows; farthest = λ A top d. reach-none rows top d c.if-count-eq0.true }

pub returns : goal.returns
unfolding rows_of
returns c = record {
  word = c.oldest_word.ensures.1;
  same = λ room behind d h. rw c.oldest_word.ensures.0 (child-first _ _ (omega arith) room behind d);
  farthest = λ A top d. rw c.oldest_word.ensures.0 (reach-ahead _ _ top d A (omega (arith, c.if-count-eq0.false)));
}
