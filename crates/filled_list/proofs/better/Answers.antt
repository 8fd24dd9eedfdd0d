-- The first row from the bound on is the only row of k words that can be better.
use Rattle.std.proofs.Common.{◌≡◌, ◌<◌, true, false, ltb, sym, ◌∙◌, arith}
use Rattle.std.proofs.lemmas.Bool.Decides.{nat_tests}
use Rattle.rows.specs.Table.{rows_of, length_of}
use Rattle.rows.specs.Keys.{key_of}
use Rattle.filled_list.proofs.Next.{best-kept, best-new, best_old}
use Rattle.filled_list.proofs.better.Goals as goal
use Rattle.filled_list.proofs.better.Goals.{then-table-row-via-then-table-row, then-table-row-via-else-table-row+then-length_of-k}

pub returns-then-table-row : goal.returns-then-table-row
unfolding rows_of
returns-then-table-row c =
    let p = c.requires in
    best-kept _ p.0 _ _ _ p.4 p.1 p.2 _ c.bound_of-row.ensures
    (λ l e.
    elim c.then-table-row.branch [
      | then-table-row-via-then-table-row w ↦ absurd (omega arith)
      | then-table-row-via-else-table-row+then-length_of-k w ↦ absurd (w.if-length_of-k.true (w.length_of.ensures.0 ∙ e))
    ])
    _ p.6

pub returns-then-not-key_less : goal.returns-then-not-key_less
unfolding rows_of
returns-then-not-key_less c =
    let p = c.requires in
    let b = rw c.in-Some.is at p.6 in
    let inside : c.bound_of-row.result < rows_of c.args.table.now = omega arith in
    let size : length_of c.args.table.now c.bound_of-row.result ≡ c.args.k = sym c.length_of.ensures.0 ∙ c.if-length_of-k.false in
    let n : ltb (key_of c.end_key-key.result.high c.end_key-key.result.low) (key_of c.in-Some.best_row.key.high c.in-Some.best_row.key.low) ≡ false = grind (arith, nat_tests) in
    (b.0, best_old _ p.0 _ _ _ p.4 p.1 p.2 _ _ _ _ _ _ b.1 c.bound_of-row.ensures inside size c.end_key-key.ensures b.0 n)

pub returns-else-not-key_less : goal.returns-else-not-key_less
unfolding rows_of
returns-else-not-key_less c =
    let p = c.requires in
    let b = rw c.in-Some.is at p.6 in
    let inside : c.bound_of-row.result < rows_of c.args.table.now = omega arith in
    let size : length_of c.args.table.now c.bound_of-row.result ≡ c.args.k = sym c.length_of.ensures.0 ∙ c.if-length_of-k.false in
    let n : ltb (key_of c.end_key-key.result.high c.end_key-key.result.low) (key_of c.in-Some.best_row.key.high c.in-Some.best_row.key.low) ≡ true = grind (arith, nat_tests) in
    (inside, best-new _ p.0 _ _ _ p.4 p.1 p.2 _ _ _ _ _ _ b.1 c.bound_of-row.ensures inside size c.end_key-key.ensures (λ _. n))

pub returns-in_default : goal.returns-in_default
unfolding rows_of
returns-in_default c =
    let p = c.requires in
    let b = rw c.in_default.is at p.6 in
    let inside : c.bound_of-row.result < rows_of c.args.table.now = omega arith in
    let size : length_of c.args.table.now c.bound_of-row.result ≡ c.args.k = sym c.length_of.ensures.0 ∙ c.if-length_of-k.false in
    (inside, best-new _ p.0 _ _ _ p.4 p.1 p.2 _ _ _ _ _ _ b c.bound_of-row.ensures inside size c.end_key-key.ensures (λ w. absurd (omega arith)))
