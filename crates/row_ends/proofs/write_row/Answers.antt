-- Each number is worked out, then all eight are stored.
use Rattle.std.proofs.Common.{sym, ap, ◌∙◌, arith, pos}
use mir.Syntax.{w32}
use mir.Facts.{to_z-of_z, to_z_pos}
use borrow.Author.Rules.{rules, sfits_of}
use Rattle.integer.proofs.Arithmetic.{zarith}
use Rattle.rows.proofs.Table.{row_in, length_limit}
use Rattle.filled_list.specs.Next.{last_words}
use Rattle.filled_list.proofs.LastWords.{last-size}
use Rattle.row_ends.proofs.Points.{end-places}
use Rattle.row_ends.specs.Steps.{end_probability, end_backoff}
use Rattle.row_ends.proofs.Written.{end-word, filled-row-is}
use Rattle.row_ends.proofs.write_row.Goals as goal

pub overflow_mul-past : goal.overflow_mul-past
overflow_mul-past c = let b = row_in _ _ c.requires.0.within in search rules

pub overflow_add-past : goal.overflow_add-past
overflow_add-past c = let n = length_limit c.args.table.now c.args.i in omega (arith, c.requires.0.size)

pub overflow_add-past-2 : goal.overflow_add-past-2
overflow_add-past-2 c = let n = length_limit c.args.table.now c.args.i in let b = row_in _ _ c.requires.0.within in omega (arith, c.requires.0.size)

pub offset_bounds-table-past : goal.offset_bounds-table-past
offset_bounds-table-past c = let n = length_limit c.args.table.now c.args.i in let b = row_in _ _ c.requires.0.within in omega (arith, c.requires.0.size)

pub slice_bounds-words-end : goal.slice_bounds-words-end
slice_bounds-words-end c = let e = c.requires.0 in (end-places _ e.checked _ _ _ e.within e.size e.some e.long).1

pub overflow_cast-m : goal.overflow_cast-m
overflow_cast-m c = let n = length_limit c.args.table.now c.args.i in let h = c.requires.0.long in let s = c.requires.0.size in omega zarith

pub returns : goal.returns
unfolding end_probability end_backoff
returns c =
    let e = c.requires.0 in
    let few = length_limit c.args.table.now c.args.i in
    let long = e.long in
    let size = e.size in
    rw c.copy_from_slice.ensures.after
    (filled-row-is c.args.table.now (last_words c.args.table.now c.args.i c.args.m) _ _ _ _ _ _ _ _
    (to_z_pos w32 {n = c.args.m} (omega arith) ∙ ap pos (sym (last-size _ _ _ e.within (omega arith))))
    (end-word _ _ _ _ 0 e (sfits_of c.word_or_zero.type_inv) c.word_or_zero.ensures)
    (end-word _ _ _ _ 1 e (sfits_of c.word_or_zero-2.type_inv) c.word_or_zero-2.ensures)
    (end-word _ _ _ _ 2 e (sfits_of c.word_or_zero-3.type_inv) c.word_or_zero-3.ensures)
    (end-word _ _ _ _ 3 e (sfits_of c.word_or_zero-4.type_inv) c.word_or_zero-4.ensures)
    (end-word _ _ _ _ 4 e (sfits_of c.word_or_zero-5.type_inv) c.word_or_zero-5.ensures)
    (to_z-of_z {w = w32} (sfits_of c.end_probability.type_inv) ∙ c.end_probability.ensures)
    (to_z-of_z {w = w32} (sfits_of c.end_backoff.type_inv) ∙ c.end_backoff.ensures))
