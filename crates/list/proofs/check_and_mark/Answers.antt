-- The checks of the rows are of a table whose length fits.
use Rattle.std.proofs.Common.{sym, ◌∙◌}
use Rattle.rows.specs.Table.{rows_of, order_of}
use Rattle.list.proofs.Check.{verdict-refused}
use Rattle.list.proofs.check_and_mark.Goals as goal

pub returns-then-not-table_fits-clause-outcome : goal.returns-then-not-table_fits-clause-outcome
returns-then-not-table_fits-clause-outcome c =
    rw (c.into.ensures) (sym (verdict-refused _ _ (sym c.table_fits.ensures ∙ c.if-not-table_fits.true)))

pub check_rows-requires : goal.check_rows-requires
unfolding order_of rows_of
check_rows-requires c = (sym c.table_fits.ensures ∙ c.if-not-table_fits.false, c.length_of-n.ensures.0, c.requires)
