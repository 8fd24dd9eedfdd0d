use Rattle.std.proofs.Common.{◌≡◌, List, ℕ, ℤ}
use Rattle.backoff.specs.Run.{Run}
use Rattle.double_array.specs.DoubleArray.{opened}
use Rattle.batch.specs.Sheet.{Outcome, sheet_outcome}
use Rattle.batch.specs.Meaning.{SheetMeans}
use Rattle.batch.proofs.Meaning.{sheet_means}
use Rattle.batch.proofs.Outcome.{array-refused}
use Rattle.batch.proofs.score_batch.Goals as goal

-- what is the outcome also means what it should
means : (base check : List ℤ) (ends : List ℕ) (r : Run) (x : Outcome) → x ≡ sheet_outcome (opened base check) ends r → SheetMeans base check ends r x
means base check ends r x e = rw e (sheet_means base check ends r)

pub returns-in-Err-clause-outcome : goal.returns-in-Err-clause-outcome
returns-in-Err-clause-outcome c = array-refused c.args.base.now c.args.check.now c.args.ends.now (record { words = c.args.words.now; points = c.args.points.now; lengths = c.args.lengths.now }) c.in-Err.ensures.1 _ (rw c.in-Err.ensures.0 at c.from.ensures)

pub returns-in-Ok-score_sheet-clause-meaning : goal.returns-in-Ok-score_sheet-clause-meaning
returns-in-Ok-score_sheet-clause-meaning c = means _ _ _ _ _ (rw (c.in-Ok.ensures.0, c.in-Ok.ensures.1) at c.in-Ok-score_sheet.ensures)

pub returns-in-Err-score_sheet-clause-meaning : goal.returns-in-Err-score_sheet-clause-meaning
returns-in-Err-score_sheet-clause-meaning c = means _ _ _ _ _ (rw c.from-in-Err-score_sheet.ensures (rw (c.in-Ok.ensures.0, c.in-Ok.ensures.1) at c.in-Err-score_sheet.ensures))
