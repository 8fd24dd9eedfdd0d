-- `arpa_headings::read_count`: what stands on either side of the first `=`.
use Rattle.std.proofs.Common.{◌≡◌, ℕ, ◌+◌, ◌<◌, cond, List, length, take, drop, None, sym, refl, ap, ◌∙◌}
use borrow.Author.Rules.{part_to_end}
use Rattle.text_parts.specs.Parts.{before}
use Rattle.text_parts.proofs.Parts.{parts-end, parts-front}
use Rattle.arpa_headings.specs.Headings.{is_count_head, without_space, count_in, count_between, read_count}
use Rattle.arpa_headings.proofs.Headings.{count_fields}
use Rattle.arpa_headings.proofs.read_count.Goals as goal

no_equals : (m : ℕ) (line : List ℕ) → before 61 line ≡ length line → None ≡ read_count m line
unfolding read_count
no_equals m line e = rw (parts-end 61 line (before 61 line) refl e) refl

by_equals : (m : ℕ) (line : List ℕ) (equals : ℕ) → equals ≡ before 61 line → equals < length line
    → read_count m line ≡ cond (is_count_head m (take equals line)) (count_in (without_space (drop (equals + 1) line))) None
unfolding read_count
by_equals m line equals e h = ap (count_between m) (parts-front 61 line equals e h) ∙ count_fields m (take equals line) (drop (equals + 1) line)

pub returns-in_err-equals : goal.returns-in_err-equals
returns-in_err-equals c = c.from_residual.ensures ∙ no_equals c.args.m c.args.line.now c.in_err-equals.ensures

pub returns-then-not-is_count_head : goal.returns-then-not-is_count_head
returns-then-not-is_count_head c =
    let e = c.in_ok-equals.ensures in
    sym (by_equals c.args.m c.args.line.now c.in_ok-equals.equals e.0 e.1 ∙ rw (sym c.is_count_head.ensures ∙ c.if-not-is_count_head.true) refl)

pub returns : goal.returns
returns c =
    let e = c.in_ok-equals.ensures in
    let equals = c.in_ok-equals.equals in
    let line = c.args.line.now in
    let behind = c.without_space.ensures ∙ ap without_space (part_to_end line (equals + 1)) in
    c.read_digits.ensures ∙ ap count_in behind
    ∙ sym (by_equals c.args.m line equals e.0 e.1 ∙ rw (sym c.is_count_head.ensures ∙ c.if-not-is_count_head.false) refl)
