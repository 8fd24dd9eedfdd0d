-- The last words of the row are looked up and, where they are no row, their points worked out.
use Rattle.std.proofs.Common.{sym, ap, ◌∙◌, arith, List, ℕ}
use mir.Syntax.{w32}
use mir.Facts.{to_z-of_z}
use borrow.Author.Rules.{rules, sfits_of}
use Rattle.backoff.specs.Model.{in_probability}
use Rattle.rows.proofs.Table.{row_in, length_limit}
use Rattle.std.specs.Option.{is_some}
use Rattle.row_search.specs.Search.{find_in, is_at}
use Rattle.row_ends.proofs.Needed.{addable-listed, addable-unlisted}
use Rattle.row_ends.proofs.Owed.{found-is}
use Rattle.row_ends.proofs.Points.{end-words_are, end-places, end-points_are}
use Rattle.row_ends.proofs.is_addable.Goals as goal

pub overflow_mul-start : goal.overflow_mul-start
overflow_mul-start c = let b = row_in _ _ c.requires.1 in search rules

pub overflow_add-past : goal.overflow_add-past
overflow_add-past c = let n = length_limit c.args.table.now c.args.i in omega (arith, c.requires.2)

pub overflow_add-past-2 : goal.overflow_add-past-2
overflow_add-past-2 c = let n = length_limit c.args.table.now c.args.i in let b = row_in _ _ c.requires.1 in omega (arith, c.requires.2)

pub row_of-requires : goal.row_of-requires
row_of-requires c = let p = c.requires in let q = end-places _ p.0 _ _ _ p.1 p.2 p.3 p.4 in (p.0, q.0, q.1, q.2, q.3)

pub end_points-requires : goal.end_points-requires
end_points-requires c =
    let p = c.requires in
    let q = end-places _ p.0 _ _ _ p.1 p.2 p.3 p.4 in
    ((p.0, q.0, q.1, q.2, q.3), sym (c.is_some.ensures ∙ ap is_some c.row_of.ensures ∙ found-is _ _) ∙ c.if-is_some.false)

pub returns-then-is_some : goal.returns-then-is_some
returns-then-is_some c =
    let p = c.requires in
    let is = c.is_some.ensures ∙ ap is_some c.row_of.ensures ∙ found-is _ _ ∙ ap (λ (ws : List ℕ). is_at (find_in c.args.table.now ws)) (end-words_are _ p.0 _ _ _ p.1 p.2 p.3 p.4) in
    c.if-is_some.true ∙ sym (addable-listed _ _ (sym is ∙ c.if-is_some.true))

pub returns-else-is_some : goal.returns-else-is_some
returns-else-is_some c =
    let p = c.requires in
    let is = c.is_some.ensures ∙ ap is_some c.row_of.ensures ∙ found-is _ _ ∙ ap (λ (ws : List ℕ). is_at (find_in c.args.table.now ws)) (end-words_are _ p.0 _ _ _ p.1 p.2 p.3 p.4) in
    c.is_probability.ensures
    ∙ ap in_probability (to_z-of_z {w = w32} (sfits_of c.end_points.type_inv) ∙ c.end_points.ensures ∙ end-points_are _ p.0 _ _ _ p.1 p.2 p.3 p.4)
    ∙ sym (addable-unlisted _ _ (sym is ∙ c.if-is_some.false))
