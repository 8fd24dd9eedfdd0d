-- Each way through the refusals, in their order, is that of the outcome.
use Rattle.std.specs.declared.result.Result.{Result}
use Rattle.std.specs.declared.result.Result.TheVariants.{Ok, Err}
use mathlib.Core.Path.{◌≡◌, sym, ◌∙◌}
use mathlib.Core.Bool.{Bool, true, false, ◌&&◌}
use mathlib.Core.Logic.{◌⊎◌, inl, inr}
use mathlib.Core.List.{List}
use Prim.Native.Nat.{ℕ, ◌≤◌, ◌<◌, ◌/◌}
use lib.Dec.{leb}
use lib.IntN.{ℤ}
use lib.ListN.{length}
use lib.Seq.{length-take-le}
use borrow.Author.Tests.{le-leb, lt-leb}
use Rattle.integer.proofs.Arithmetic.{and_no}
use Rattle.integer.proofs.Ranges.{and_both}
use Rattle.backoff.specs.declared.Refusal.{Refusal}
use Rattle.backoff.specs.Refusal.{number_of, place_of, verdict_of, number_in, place_in}
use Rattle.rows.specs.Table.{rows_of}
use Rattle.double_array.specs.DoubleArray.{sizes_ok}
use Rattle.build.specs.Meaning.{BuildMeans}
use Rattle.build.proofs.Outcome.{outcome_table, outcome_sizes, outcome_checked}
use Rattle.build.proofs.Meaning.{answers}
use Rattle.build.proofs.build.Goals as goal

pub returns-then-not-table_fits-clause-outcome : goal.returns-then-not-table_fits-clause-outcome
returns-then-not-table_fits-clause-outcome c = rw c.into.ensures (answers _ _ _ _ (outcome_table _ _ _ _ (sym c.table_fits.ensures ∙ c.if-not-table_fits.true))).0

pub returns-then-not-table_fits-clause-meaning : goal.returns-then-not-table_fits-clause-meaning
returns-then-not-table_fits-clause-meaning c = rw c.into.ensures (answers _ _ _ _ (outcome_table _ _ _ _ (sym c.table_fits.ensures ∙ c.if-not-table_fits.true))).1

module _ (t base check : List ℤ) (work : List ℕ) where
  -- the ways to 2, and past it
  bad_sizes : (s : Bool) → s ≡ sizes_ok base check → (s ≡ false) ⊎ ((s ≡ true) × (length work < length t / 8)) → (sizes_ok base check && leb (rows_of t) (length work)) ≡ false
  unfolding rows_of
  bad_sizes s e (inl h) = rw (sym e ∙ h)
  bad_sizes s e (inr h) = and_no (sizes_ok base check) (leb (rows_of t) (length work)) (lt-leb (rows_of t) (length work) h.1)

  good_sizes : sizes_ok base check ≡ true → length t / 8 ≤ length work → (sizes_ok base check && leb (rows_of t) (length work)) ≡ true
  unfolding rows_of
  good_sizes e h = and_both (sizes_ok base check) (leb (rows_of t) (length work)) e (le-leb (rows_of t) (length work) h)

  -- the number and the place of a result are those of its verdict
  means : {base' check' : List ℤ} (r : Result Unit (Refusal ℕ)) → BuildMeans t base check work (number_of (verdict_of r)) (place_of (verdict_of r)) base' check' → BuildMeans t base check work (number_in r) (place_in r) base' check'
  means (Ok x) m = m
  means (Err x) m = m

pub returns-then-not-sizes_ok-clause-outcome : goal.returns-then-not-sizes_ok-clause-outcome
returns-then-not-sizes_ok-clause-outcome c =
    let a = c.args in
    let fits = sym c.table_fits.ensures ∙ c.if-not-table_fits.false in
    rw c.into-then-not-sizes_ok.ensures (answers _ _ _ _ (outcome_sizes _ _ _ _ fits (bad_sizes a.table.now a.base.now a.check.now a.work.now c.sizes_ok.result c.sizes_ok.ensures c.then-not-sizes_ok.either))).0

pub returns-then-not-sizes_ok-clause-meaning : goal.returns-then-not-sizes_ok-clause-meaning
returns-then-not-sizes_ok-clause-meaning c =
    let a = c.args in
    let fits = sym c.table_fits.ensures ∙ c.if-not-table_fits.false in
    rw c.into-then-not-sizes_ok.ensures (answers _ _ _ _ (outcome_sizes _ _ _ _ fits (bad_sizes a.table.now a.base.now a.check.now a.work.now c.sizes_ok.result c.sizes_ok.ensures c.then-not-sizes_ok.either))).1

pub check_and_place-requires : goal.check_and_place-requires
unfolding rows_of
check_and_place-requires c = (sym c.table_fits.ensures ∙ c.if-not-table_fits.false, sym c.sizes_ok.ensures ∙ c.if-not-sizes_ok.false, length-take-le _ _ c.if-work-rows.false)

pub returns-clause-outcome : goal.returns-clause-outcome
unfolding rows_of
returns-clause-outcome c =
    let a = c.args in
    let good = good_sizes a.table.now a.base.now a.check.now a.work.now (sym c.sizes_ok.ensures ∙ c.if-not-sizes_ok.false) c.if-work-rows.false in
    (answers _ _ _ _ (outcome_checked _ _ _ _ (sym c.table_fits.ensures ∙ c.if-not-table_fits.false) good c.check_and_place.ensures)).0

pub returns-clause-meaning : goal.returns-clause-meaning
unfolding rows_of
returns-clause-meaning c =
    let a = c.args in
    let good = good_sizes a.table.now a.base.now a.check.now a.work.now (sym c.sizes_ok.ensures ∙ c.if-not-sizes_ok.false) c.if-work-rows.false in
    means a.table.now a.base.now a.check.now a.work.now c.check_and_place.result (answers _ _ _ _ (outcome_checked _ _ _ _ (sym c.table_fits.ensures ∙ c.if-not-table_fits.false) good c.check_and_place.ensures)).1
