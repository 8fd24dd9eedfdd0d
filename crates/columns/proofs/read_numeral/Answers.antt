-- `columns::read_numeral`, by the first character.
use Rattle.std.proofs.Common.{ap, ◌∙◌, arith}
use borrow.Author.Rules.{part_to_end}
use Rattle.columns.specs.Columns.{read_negative}
use Rattle.columns.proofs.Scans.{numeral_none, numeral_minus, numeral_other}
use Rattle.columns.proofs.read_numeral.Goals as goal

pub returns-in-empty : goal.returns-in-empty
returns-in-empty c = numeral_none c.args.text.now c.in-empty.len_below

pub returns-in-45 : goal.returns-in-45
returns-in-45 c =
    let text = c.args.text.now in
    c.read_negative.ensures ∙ ap read_negative (part_to_end text 1) ∙ numeral_minus text c.in-45.len_at_least (omega arith)

pub returns-in_default : goal.returns-in_default
returns-in_default c = c.read_natural.ensures ∙ numeral_other c.args.text.now c.in_default.len_at_least (λ e. omega arith)
