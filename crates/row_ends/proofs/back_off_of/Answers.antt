-- b of the row that was found, or 0.
use Rattle.std.proofs.Common.{◌≡◌, ap, ◌∙◌, rules, ℤ, pos}
use Rattle.std.specs.Prelude.{MatchOption}
use Rattle.std.specs.declared.option.Option.{Option}
use Rattle.std.specs.declared.option.Option.TheVariants.{Some, None}
use mir.Syntax.{w32}
use mir.Val.{SFits}
use mir.Facts.{to_z-of_z}
use borrow.Author.Rules.{sfits_of}
use Rattle.row_search.specs.declared.Row.{Row}
use Rattle.row_ends.specs.Points.{backoff_in}
use Rattle.row_ends.proofs.back_off_of.Goals as goal

said : {P : Row → Type 0} (o : Option Row) (x : ℤ) → MatchOption o (x ≡ pos 0) P → ((row : Row) → P row → x ≡ row.b) → x ≡ backoff_in o
said (Some row) x h k = k row h
said None x h k = h

pub returns : goal.returns
returns c =
    let fits : SFits w32 c.map_or.result = sfits_of c.map_or.type_inv in
    to_z-of_z fits ∙ said c.row_of.result c.map_or.result c.map_or.ensures (λ row h. search rules) ∙ ap backoff_in c.row_of.ensures
