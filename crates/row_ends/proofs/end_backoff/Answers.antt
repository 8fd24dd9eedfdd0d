-- The row itself, or one that is added.
use Rattle.std.proofs.Common.{◌∙◌, arith, lit<}
use mir.Syntax.{w32}
use mir.Facts.{to_z-of_z}
use borrow.Author.Rules.{sfits_of}
use Rattle.rows.proofs.Table.{row_in}
use Rattle.row_ends.proofs.Ends.{own-backoff, added-backoff}
use Rattle.row_ends.proofs.end_backoff.Goals as goal

pub field-requires : goal.field-requires
field-requires c = (row_in _ _ c.requires.within, lit< tt)

pub returns-then-k-m : goal.returns-then-k-m
returns-then-k-m c = to_z-of_z {w = w32} (sfits_of c.field.type_inv) ∙ c.field.ensures ∙ own-backoff _ _ _ _ c.requires (omega arith)

pub returns-else-k-m : goal.returns-else-k-m
returns-else-k-m c = let l = c.requires.long in added-backoff _ _ _ _ c.requires (omega arith)
