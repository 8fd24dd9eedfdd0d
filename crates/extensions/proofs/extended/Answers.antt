-- The first row that is not below the row's key with a 0 in front tells whether some row has a word there.
use Rattle.std.proofs.Common.{◌≡◌, ℕ, ◌+◌, ◌*◌, ltb, sym, subst, ◌∙◌, arith}
use borrow.Author.Tests.{le-ltb}
use Rattle.backoff.specs.Words.{radix}
use Rattle.rows.specs.Table.{rows_of}
use Rattle.rows.specs.Keys.{row_key}
use Rattle.row_search.specs.ByKey.{Bracket}
use Rattle.extensions.proofs.Stretch.{extended-first, extended_none}
use Rattle.extensions.proofs.extended.Goals as goal

pub returns-then-first-table : goal.returns-then-first-table
unfolding rows_of
returns-then-first-table c =
    let t = c.args.table.now in
    let first = c.first_not_below-first.result in
    let b = subst (λ (k : ℕ). Bracket t k first first) c.front_key-k.ensures.0 c.first_not_below-first.ensures in
    let e : c.key_less.result ≡ ltb (row_key t first) (radix * row_key t c.args.i + radix) = grind arith in
    e ∙ sym (extended-first _ c.requires.1 _ (omega arith) _ b (omega arith))

pub returns-else-first-table : goal.returns-else-first-table
unfolding rows_of
returns-else-first-table c =
    let t = c.args.table.now in
    let first = c.first_not_below-first.result in
    let b = subst (λ (k : ℕ). Bracket t k first first) c.front_key-k.ensures.0 c.first_not_below-first.ensures in
    le-ltb _ _ c.if-first-table.false ∙ sym (extended_none _ c.requires.1 _ (omega arith) _ b (omega arith))
