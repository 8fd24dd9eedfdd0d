-- The row is written where none of its words is missing and the table has room. Assumes nothing.
use Rattle.std.proofs.Common.{sym, ap, ◌∙◌, length}
use mir.Facts.{to_z-of_z}
use Rattle.text_parts.specs.Parts.{parts}
use Rattle.arpa_text.specs.Lines.{Listed}
use Rattle.arpa_words.specs.Held.{all_numbers}
use Rattle.arpa_words.proofs.Numbers.{present, absent}
use Rattle.arpa_lines.proofs.HeldTexts.{held-searchable}
use Rattle.arpa_lines.proofs.LongSteps.{in_longer, longer-numbers, longer-unlisted, longer-refused, longer-added}
use Rattle.arpa_lines.proofs.longer_step.Goals as goal

pub numbers_met-requires : goal.numbers_met-requires
numbers_met-requires c =
    let t = c.args.table.now in
    let s = c.args.store.now in
    let later = (in_longer (length t) (length s) t s c.args.progress c.requires.0.0 c.requires.0.1 c.args.m c.requires.2 c.requires.1).2 in
    (held-searchable (length t) (length s) t s c.args.progress c.requires.0.0 c.requires.0.1 later.index, c.requires.4, c.requires.3)

pub returns-in_default : goal.returns-in_default
returns-in_default c a h =
    let t = c.args.table.now in
    let s = c.args.store.now in
    let us = parts 32 c.args.text.now in
    let line : Listed = record { p = c.args.p; b = c.args.b; texts = parts 32 c.args.text.now } in
    let same = longer-numbers (length t) (length s) t s c.args.progress a h c.args.m c.requires.2 c.requires.1 line us in
    longer-unlisted (length t) (length s) t s c.args.progress a h c.args.m c.requires.2 c.requires.1 line us (absent _ (sym c.in_default.is ∙ c.numbers_met.ensures ∙ ap all_numbers same))

pub returns-then-table-progress : goal.returns-then-table-progress
returns-then-table-progress c a h =
    let t = c.args.table.now in
    let s = c.args.store.now in
    let us = parts 32 c.args.text.now in
    let line : Listed = record { p = c.args.p; b = c.args.b; texts = parts 32 c.args.text.now } in
    let same = longer-numbers (length t) (length s) t s c.args.progress a h c.args.m c.requires.2 c.requires.1 line us in
    let all = present _ c.in-Some.row (sym c.in-Some.is ∙ c.numbers_met.ensures ∙ ap all_numbers same) in
    longer-refused (length t) (length s) t s c.args.progress a h c.args.m c.requires.2 c.requires.1 line us all.0 c.if-table-progress.true

pub returns : goal.returns
returns c a h =
    let t = c.args.table.now in
    let s = c.args.store.now in
    let us = parts 32 c.args.text.now in
    let line : Listed = record { p = c.args.p; b = c.args.b; texts = parts 32 c.args.text.now } in
    let same = longer-numbers (length t) (length s) t s c.args.progress a h c.args.m c.requires.2 c.requires.1 line us in
    let all = present _ c.in-Some.row (sym c.in-Some.is ∙ c.numbers_met.ensures ∙ ap all_numbers same) in
    rw (c.write_long_row.ensures, to_z-of_z c.ranges.p, to_z-of_z c.ranges.b)
    (longer-added (length t) (length s) t s c.args.progress a h c.args.m c.requires.2 c.requires.1 line us all.0 c.requires.4 c.if-table-progress.false c.in-Some.row all.1 c.row_added.result c.row_added.ensures)
