-- A lent row's p is in range.
use Rattle.std.proofs.Common.{ap, ◌∙◌}
use mir.Syntax.{w32}
use mir.Facts.{to_z-of_z}
use borrow.Author.Rules.{sfits_of}
use Rattle.backoff.specs.Model.{in_probability}
use Rattle.rows.proofs.Table.{row_in}
use Rattle.row_ends.proofs.Ends.{addable_by}
use Rattle.row_ends.proofs.end_fits.Goals as goal

pub length_of-k-requires : goal.length_of-k-requires
length_of-k-requires c = row_in _ _ c.requires.within

pub returns : goal.returns
returns c =
    c.is_probability.ensures
    ∙ ap in_probability (to_z-of_z {w = w32} (sfits_of c.end_probability.type_inv) ∙ c.end_probability.ensures)
    ∙ addable_by _ c.requires.checked c.args.i c.args.m
