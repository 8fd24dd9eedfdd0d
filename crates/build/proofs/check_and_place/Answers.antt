-- The marks that are lent are a part of the array on the stack, none of them set; what comes back is what the check left.
use mathlib.Core.Path.{◌≡◌, refl, sym, ◌∙◌}
use mathlib.Core.Bool.{true}
use mathlib.Core.List.{List}
use Prim.Native.Nat.{ℕ, ◌≤◌}
use native.Mathlib.Omega.{arith}
use lib.IntN.{ℤ}
use lib.ListN.{length}
use Rattle.std.proofs.lemmas.Result.{err_from_is_err_and}
use Rattle.backoff.specs.Limits.{row_limit}
use Rattle.rows.specs.Table.{rows_of}
use Rattle.list.specs.Check.{table_fits}
use Rattle.list.specs.ListModel.{continued_in}
use Rattle.list.proofs.Check.{fitting_table}
use Rattle.list.proofs.Marks.{lent_none, lent_length}
use Rattle.build.proofs.Outcome.{outcome_rows}
use Rattle.build.proofs.check_and_place.Goals as goal

few : (t : List ℤ) (work : List ℕ) → table_fits (length t) ≡ true → length work ≡ rows_of t → length work ≤ row_limit
unfolding rows_of
few t work f e = omega (arith, (fitting_table _ f).1, e)

pub slice_bounds-marks-end : goal.slice_bounds-marks-end
slice_bounds-marks-end c = few c.args.table.now c.args.work.now c.requires.0 c.requires.2

pub slice_bounds-marks-end-2 : goal.slice_bounds-marks-end-2
slice_bounds-marks-end-2 c = sym (lent_length (length c.args.work.now) row_limit (few c.args.table.now c.args.work.now c.requires.0 c.requires.2))

pub check_and_mark-requires : goal.check_and_mark-requires
check_and_mark-requires c = lent_none (length c.args.work.now) row_limit

pub returns-in_err-check_and_mark : goal.returns-in_err-check_and_mark
returns-in_err-check_and_mark c =
    let p = err_from_is_err_and c.from_residual.result c.from_residual.ensures.1 in
    rw (p.1, p.2) (outcome_rows _ _ _ _ c.in_err-check_and_mark.ensures.outcome refl)

pub invariant_of-place_list : goal.invariant_of-place_list
unfolding continued_in
invariant_of-place_list c =
    let f = few c.args.table.now c.args.work.now c.requires.0 c.requires.2 in
    let each = c.check_and_mark.auto.marks ∙ lent_length (length c.args.work.now) row_limit f ∙ c.requires.2 in
    record { accepted = sym c.in_ok-check_and_mark.ensures.outcome; flags = record { each = each; mark = λ j l. c.in_ok-check_and_mark.ensures.marks refl j l (omega (arith, each)) } }
