-- All refusals are told before the first row is written.
use Rattle.std.proofs.Common.{◌≡◌, arith, rules}
use Rattle.std.specs.declared.result.Result.TheVariants.{Err}
use Rattle.rows.specs.Table.{rows_of, order_of}
use Rattle.list.proofs.Check.{checked-size}
use Rattle.filling.proofs.Refusals.{fill_accepted, outcome_refused, outcome_accepted}
use Rattle.filling.proofs.Meaning.{fill_means}
use Rattle.filling.proofs.fill.Goals as goal

pub returns-in_err-rows : goal.returns-in_err-rows
returns-in_err-rows c =
    let is : c.from_residual.result ≡ Err c.in_err-rows.field-0.0 = search rules in
    let o = outcome_refused _ _ _ _ c.in_err-rows.ensures in
    rw is (record { outcome = o; meaning = fill_means _ _ _ _ _ _ o })

pub overflow_sub-last : goal.overflow_sub-last
unfolding rows_of
overflow_sub-last c = (checked-size _ _ (fill_accepted _ _ c.in_ok-rows.ensures.0).checked).0

pub length_of-requires : goal.length_of-requires
unfolding rows_of
length_of-requires c = let h = (checked-size _ _ (fill_accepted _ _ c.in_ok-rows.ensures.0).checked).0 in omega arith

pub write_rows-requires : goal.write_rows-requires
unfolding rows_of order_of
write_rows-requires c = let f = fill_accepted _ _ c.in_ok-rows.ensures.0 in (f.checked, c.length_of.ensures.0, f.fits)

pub overflow_cast-result : goal.overflow_cast-result
overflow_cast-result c = omega (arith, c.in_ok-rows.ensures.1, (fill_accepted _ _ c.in_ok-rows.ensures.0).few)

pub returns : goal.returns
returns c =
    let o = outcome_accepted _ _ c.in_ok-rows.ensures.0 _ c.in_ok-rows.ensures.1 _ c.write_rows.ensures in
    record { outcome = o; meaning = fill_means _ _ _ _ _ _ o }
