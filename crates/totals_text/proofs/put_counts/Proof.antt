-- `totals_text::put_counts` meets its contract. Assumes nothing.
use mathlib.Core.Path.{sym, ◌∙◌}
use native.Mathlib.Omega.{arith}
use lib.IntN.{pos}
use Rattle.columns.specs.Columns.{numeral, column}
use Rattle.totals_text.specs.Lines.{count_columns}
use Rattle.totals_text.proofs.Lines.{length-counts}
use Rattle.totals_text.proofs.Stores.{sets_three}
use borrow.Author.Rules.{rules}
use Rattle.totals_text.proofs.put_counts.Statement.{statement}
use Rattle.totals_text.proofs.put_counts.Tie as tie

put-column-requires : tie.Need-put_column-first-requires
unfolding numeral column
put-column-requires c κs =
    let a = c.args in
    omega (arith, length-counts a.number a.words a.unknown, c.requires)

put-column-requires-2 : tie.Need-put_column-second-requires
unfolding numeral column
put-column-requires-2 c κs =
    let p = c.before.before.before in
    let s = p.before.before.before in
    omega (arith, length-counts s.args.number s.args.words s.args.unknown, s.requires, p.put_column-first.ensures.0, p.put_column-first.auto.out)

put-column-requires-3 : tie.Need-put_column-requires
unfolding numeral column
put-column-requires-3 c κs =
    let q = c.before.before.before in
    let p = q.before.before.before.before in
    let s = p.before.before.before in
    omega (arith, length-counts s.args.number s.args.words s.args.unknown, s.requires, p.put_column-first.ensures.0, p.put_column-first.auto.out, q.put_column-second.ensures.0, q.put_column-second.auto.out)

same_length : tie.Need-shape_of-out
same_length c = search rules

returns : tie.Need-returns
unfolding numeral column count_columns
returns c =
    let r = c.before.before in
    let q = r.before.before.before.before in
    let p = q.before.before.before.before in
    let a = p.args in (
      omega (arith, length-counts a.number a.words a.unknown, p.put_column-first.ensures.0, q.put_column-second.ensures.0, r.put_column.ensures.0),
      r.put_column.ensures.1
          ∙ rw (q.put_column-second.ensures.1, p.put_column-first.ensures.1, q.put_column-second.ensures.0, p.put_column-first.ensures.0)
          (sym (sets_three a.out.now 0 (column 8 (pos a.number)) (column 8 (pos a.words)) (column 8 (pos a.unknown)))),
    )

pub put_counts_spec : {M : Type 1} → statement M
put_counts_spec =
    tie.close
    (tie.spec
    put-column-requires
    put-column-requires-2
    put-column-requires-3
    same_length
    returns)
