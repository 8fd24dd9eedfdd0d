-- The row itself, or one that is added.
use Rattle.std.proofs.Common.{◌∙◌, arith, lit<}
use mir.Syntax.{w32}
use mir.Facts.{to_z-of_z}
use borrow.Author.Rules.{rules, sfits_of}
use Rattle.rows.proofs.Table.{row_in, length_limit}
use Rattle.row_ends.proofs.Points.{end-places}
use Rattle.row_ends.proofs.Ends.{own-probability, added-probability, added-absent}
use Rattle.row_ends.proofs.end_probability.Goals as goal

pub overflow_mul-start : goal.overflow_mul-start
overflow_mul-start c = let b = row_in _ _ c.requires.within in search rules

pub overflow_add-past : goal.overflow_add-past
overflow_add-past c = let n = length_limit c.args.table.now c.args.i in omega (arith, c.requires.size)

pub overflow_add-past-then-m-k : goal.overflow_add-past-then-m-k
overflow_add-past-then-m-k c = let n = length_limit c.args.table.now c.args.i in let b = row_in _ _ c.requires.within in omega (arith, c.requires.size)

pub end_points-requires : goal.end_points-requires
end_points-requires c =
    let e = c.requires in
    let q = end-places _ e.checked _ _ _ e.within e.size e.some e.long in
    ((e.checked, q.0, q.1, q.2, q.3), added-absent _ _ _ _ e c.if-m-k.true)

pub returns-then-m-k : goal.returns-then-m-k
returns-then-m-k c = to_z-of_z {w = w32} (sfits_of c.end_points.type_inv) ∙ c.end_points.ensures ∙ added-probability _ _ _ _ c.requires c.if-m-k.true

pub field-requires : goal.field-requires
field-requires c = (row_in _ _ c.requires.within, lit< tt)

pub returns : goal.returns
returns c = to_z-of_z {w = w32} (sfits_of c.field.type_inv) ∙ c.field.ensures ∙ own-probability _ _ _ _ c.requires c.if-m-k.false
