use Rattle.std.proofs.Common.{rules, add-one, ◌∙◌}
use Rattle.sentence_ends.proofs.Ends.{bad_end-inside, end_refused, sizes-refused, met-wide}
use Rattle.sentence_ends.proofs.check_sheet.Goals as goal

pub overflow_add-result : goal.overflow_add-result
overflow_add-result c = let h = bad_end-inside c.args.words c.args.ends.now c.in-Some.i c.in-Some.ensures in search rules

pub returns-in-Some : goal.returns-in-Some
returns-in-Some c = rw add-one (end_refused _ _ c.args.words _ _ _ c.args.array.is_array c.in-Some.i c.in-Some.ensures)

pub returns-in_err-check_sizes : goal.returns-in_err-check_sizes
returns-in_err-check_sizes c = sizes-refused _ _ c.args.words _ _ _ c.args.array.is_array c.in_default.ensures _ c.last_end.ensures _ (met-wide c.from_residual.result _ c.from_residual.ensures.1 ∙ c.in_err-check_sizes.ensures)

pub returns : goal.returns
returns c = sizes-refused _ _ c.args.words _ _ _ c.args.array.is_array c.in_default.ensures _ c.last_end.ensures _ c.in_ok-check_sizes.ensures
