use Rattle.std.proofs.Common.{refl}
use Rattle.run_answer.proofs.Refused.{some-number}
use Rattle.sentences.proofs.Outcome.{no-array, many_refused, all-usable, count_held, refused_early, sizes, listed_late, listing-refused}
use Rattle.sentences.proofs.list_counted.Goals as goal

pub returns-in_err-array-clause-outcome : goal.returns-in_err-array-clause-outcome
returns-in_err-array-clause-outcome c =
    rw (listing-refused c.from_residual.result _ c.from_residual.ensures.1, c.in_err-array.ensures.0) (no-array _ _ _ _ _ c.in_err-array.ensures.1)

pub returns-in_default-clause-outcome : goal.returns-in_default-clause-outcome
returns-in_default-clause-outcome c = rw (c.in_ok-array.ensures.0, c.in_ok-array.ensures.1) at (many_refused c.in_ok-array.array.base.now c.in_ok-array.array.check.now c.args.k c.args.words.now c.args.totals.now c.in_ok-array.array.is_array c.in_default.ensures)

pub returns-in_err-check_sizes-clause-outcome : goal.returns-in_err-check_sizes-clause-outcome
returns-in_err-check_sizes-clause-outcome c =
    rw (listing-refused c.from_residual-in_err-check_sizes.result _ c.from_residual-in_err-check_sizes.ensures.1)
    (rw (c.in_ok-array.ensures.0, c.in_ok-array.ensures.1) at (refused_early c.in_ok-array.array.base.now c.in_ok-array.array.check.now c.args.k c.args.words.now c.args.totals.now c.in_ok-array.array.is_array c.in-Some.usable c.in-Some.ensures _ c.in_err-check_sizes.ensures (some-number _)))

pub list_usable-requires-clause-all_usable : goal.list_usable-requires-clause-all_usable
list_usable-requires-clause-all_usable c = all-usable c.in_ok-array.array.base.now c.in_ok-array.array.check.now c.args.k c.args.words.now c.args.totals.now c.in_ok-array.array.is_array c.in-Some.usable c.in-Some.ensures

pub list_usable-requires-clause-le_k : goal.list_usable-requires-clause-le_k
list_usable-requires-clause-le_k c = let s = sizes c.in_ok-array.array.base.now c.in_ok-array.array.check.now c.args.k c.args.words.now c.args.totals.now c.in_ok-array.array.is_array c.in-Some.usable c.in-Some.ensures 0 c.in_ok-check_sizes.ensures refl in (s.some, s.short)

pub list_usable-requires-clause-k_in_bounds : goal.list_usable-requires-clause-k_in_bounds
list_usable-requires-clause-k_in_bounds c = let s = sizes c.in_ok-array.array.base.now c.in_ok-array.array.check.now c.args.k c.args.words.now c.args.totals.now c.in_ok-array.array.is_array c.in-Some.usable c.in-Some.ensures 0 c.in_ok-check_sizes.ensures refl in (s.words_fit, s.totals_fit)

pub returns-in_err-sentences-clause-outcome : goal.returns-in_err-sentences-clause-outcome
returns-in_err-sentences-clause-outcome c =
    rw (listing-refused c.from_residual-in_err-sentences.result _ c.from_residual-in_err-sentences.ensures.1)
    (rw (c.in_ok-array.ensures.0, c.in_ok-array.ensures.1) at (listed_late c.in_ok-array.array.base.now c.in_ok-array.array.check.now c.args.k c.args.words.now c.args.totals.now c.in_ok-array.array.is_array c.in-Some.usable c.in-Some.ensures 0 c.in_ok-check_sizes.ensures refl _ c.in_err-sentences.ensures))

pub returns-clause-outcome : goal.returns-clause-outcome
returns-clause-outcome c = rw (c.in_ok-array.ensures.0, c.in_ok-array.ensures.1) at (listed_late c.in_ok-array.array.base.now c.in_ok-array.array.check.now c.args.k c.args.words.now c.args.totals.now c.in_ok-array.array.is_array c.in-Some.usable c.in-Some.ensures 0 c.in_ok-check_sizes.ensures refl _ c.in_ok-sentences.ensures)

pub returns-clause-usable : goal.returns-clause-usable
returns-clause-usable c = rw (c.in_ok-array.ensures.0, c.in_ok-array.ensures.1) at (count_held c.in_ok-array.array.base.now c.in_ok-array.array.check.now c.args.k c.args.words.now c.args.totals.now c.in_ok-array.array.is_array c.in-Some.usable c.in-Some.ensures)
