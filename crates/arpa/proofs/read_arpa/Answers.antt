-- A reading that is refused leaves zeros, and another leaves the rows and the texts. Assumes nothing.
use Rattle.std.proofs.Common.{sym, ap, ◌∙◌, subst, not, ℕ, length, pos}
use lib.ListN.{replicate}
use Rattle.text_parts.specs.Parts.{parts}
use Rattle.arpa_sections.specs.Sections.{unread}
use Rattle.arpa_lines.specs.Reading.{read_lines}
use Rattle.arpa_reading.specs.Held.{Concluded}
use Rattle.arpa_reading.specs.Rows.{rows_in}
use Rattle.arpa.proofs.Answers.{lines-here, lines-length, lines-store-length, lines_sized, refused_is, read_is, leaves_refused, leaves_read}
use Rattle.arpa.proofs.Meaning.{read_means}
use Rattle.arpa.proofs.read_arpa.Goals as goal

pub read_lines-ending-requires : goal.read_lines-ending-requires
read_lines-ending-requires c = (
  c.fill.ensures.after (λ y e. e) ∙ ap (λ (n : ℕ). replicate n (pos 0)) (sym c.fill.ensures.len),
  c.fill-2.ensures.after (λ y e. e) ∙ ap (λ (n : ℕ). replicate n 0) (sym c.fill-2.ensures.len),
)

pub conclude-answer-requires : goal.conclude-answer-requires
conclude-answer-requires c =
    let room = length c.args.table.now in
    let size = length c.args.store.now in
    let t = c.read_lines-ending.new.table in
    let s = c.read_lines-ending.new.store in
    let pieces = parts 10 c.args.text.now in
    let e = c.read_lines-ending.result in
    let lines = lines_sized (length c.fill.new.self) (length c.fill-2.new.self) room size t s e pieces c.fill.ensures.len c.fill-2.ensures.len c.read_lines-ending.ensures in
    (read_lines room size unread 1 pieces, (size, (s, lines-here room size t s e (read_lines room size unread 1 pieces) lines)))

pub returns-then-is_err-clause-outcome : goal.returns-then-is_err-clause-outcome
returns-then-is_err-clause-outcome c =
    let room = length c.args.table.now in
    let size = length c.args.store.now in
    let t = c.read_lines-ending.new.table in
    let s = c.read_lines-ending.new.store in
    let pieces = parts 10 c.args.text.now in
    let e = c.read_lines-ending.result in
    let l = read_lines room size unread 1 pieces in
    let lines = lines_sized (length c.fill.new.self) (length c.fill-2.new.self) room size t s e pieces c.fill.ensures.len c.fill-2.ensures.len c.read_lines-ending.ensures in
    let d = subst (λ (n : ℕ). Concluded c.args.filling n size c.conclude-answer.new.table s l (rows_in c.conclude-answer.result)) (lines-length room size t s e l lines)
    (c.conclude-answer.ensures l size s (lines-here room size t s e l lines)) in
    let no = refused_is c.conclude-answer.result (c.is_err.ensures.negation ∙ ap not c.if-is_err.true) in
    leaves_refused c.args.filling room size c.args.text.now c.conclude-answer.new.table s (rows_in c.conclude-answer.result) d no.0 no.1.0 no.1.1 c.fill-then-is_err.new.self c.fill-then-is_err-2.new.self
    (c.fill-then-is_err.ensures.after (λ y e. e) ∙ ap (λ (n : ℕ). replicate n (pos 0)) d.long)
    (c.fill-then-is_err-2.ensures.after (λ y e. e) ∙ ap (λ (n : ℕ). replicate n 0) (lines-store-length room size t s e l lines))

pub returns-then-is_err-clause-meaning : goal.returns-then-is_err-clause-meaning
returns-then-is_err-clause-meaning c =
    read_means c.args.filling (length c.args.table.now) (length c.args.store.now) c.args.text.now (rows_in c.conclude-answer.result) c.fill-then-is_err.new.self c.fill-then-is_err-2.new.self
    (returns-then-is_err-clause-outcome c)

pub returns-else-is_err-clause-outcome : goal.returns-else-is_err-clause-outcome
returns-else-is_err-clause-outcome c =
    let room = length c.args.table.now in
    let size = length c.args.store.now in
    let t = c.read_lines-ending.new.table in
    let s = c.read_lines-ending.new.store in
    let pieces = parts 10 c.args.text.now in
    let e = c.read_lines-ending.result in
    let l = read_lines room size unread 1 pieces in
    let lines = lines_sized (length c.fill.new.self) (length c.fill-2.new.self) room size t s e pieces c.fill.ensures.len c.fill-2.ensures.len c.read_lines-ending.ensures in
    let d = subst (λ (n : ℕ). Concluded c.args.filling n size c.conclude-answer.new.table s l (rows_in c.conclude-answer.result)) (lines-length room size t s e l lines)
    (c.conclude-answer.ensures l size s (lines-here room size t s e l lines)) in
    let yes = read_is c.conclude-answer.result (c.is_err.ensures.negation ∙ ap not c.if-is_err.false) in
    leaves_read c.args.filling room size c.args.text.now c.conclude-answer.new.table s (rows_in c.conclude-answer.result) d yes.0 yes.1

pub returns-else-is_err-clause-meaning : goal.returns-else-is_err-clause-meaning
returns-else-is_err-clause-meaning c =
    read_means c.args.filling (length c.args.table.now) (length c.args.store.now) c.args.text.now (rows_in c.conclude-answer.result) c.conclude-answer.new.table c.read_lines-ending.new.store
    (returns-else-is_err-clause-outcome c)
