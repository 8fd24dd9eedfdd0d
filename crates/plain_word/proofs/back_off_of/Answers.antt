-- b of the row that was found, or 0.
use Rattle.std.proofs.Common.{◌≡◌, sym, ◌∙◌, rules, List, ℕ, ℤ, pos, reverse}
use Rattle.std.specs.Prelude.{MatchOption}
use Rattle.std.specs.declared.option.Option.{Option}
use Rattle.std.specs.declared.option.Option.TheVariants.{Some, None}
use mir.Syntax.{w32}
use mir.Val.{SFits}
use mir.Facts.{to_z-of_z}
use borrow.Author.Rules.{sfits_of}
use Rattle.backoff.specs.Model.{backoff}
use Rattle.list.specs.ListModel.{model_of}
use Rattle.row_search.specs.Search.{find_in, found_row}
use Rattle.row_search.specs.declared.Row.{Row}
use Rattle.plain_word.proofs.Rows.{row-some, row-none}
use Rattle.plain_word.proofs.back_off_of.Goals as goal

said : {P : Row → Type 0} (t : List ℤ) (ws : List ℕ) (o : Option Row) (x : ℤ) → o ≡ found_row t (find_in t ws) → MatchOption o (x ≡ pos 0) P → ((row : Row) → P row → x ≡ row.b) → x ≡ backoff (model_of t) (reverse ws)
said t ws (Some row) x e h k = k row h ∙ (row-some t ws e).b-is
said t ws None x e h k = h ∙ sym (row-none t ws e).1

pub returns : goal.returns
returns c =
    let fits : SFits w32 c.map_or.result = sfits_of c.map_or.type_inv in
    to_z-of_z fits ∙ said _ _ c.row_of.result c.map_or.result c.row_of.ensures c.map_or.ensures (λ row h. search rules)
