-- The first row not below the key past the row's own is where they end.
use Rattle.std.proofs.Common.{ℕ, ◌+◌, ap, subst, ◌∙◌, arith}
use Rattle.backoff.specs.Words.{radix}
use Rattle.rows.specs.Table.{rows_of}
use Rattle.row_search.specs.ByKey.{Bracket}
use Rattle.extensions.proofs.Stretch.{stretch}
use Rattle.extensions.proofs.children_end.Goals as goal

pub returns : goal.returns
unfolding rows_of
returns c =
    let t = c.args.table.now in
    let b = c.key_raised-past.ensures ∙ ap (λ (k : ℕ). k + radix) c.front_key.ensures.0 in
    stretch t c.args.i c.args.from c.next_bound.result c.requires.1 (omega arith) c.requires.2
    (subst (λ (k : ℕ). Bracket t k c.next_bound.result c.next_bound.result) b c.next_bound.ensures)
