-- `arpa_logs::read_size`, by what stands before and behind the first point.
use Rattle.std.proofs.Common.{◌≡◌, ℕ, ◌+◌, ◌*◌, ◌^◌, ◌≤◌, true, false, List, length, drop, Option, Some, None, MatchOption, sym, ap, refl, ◌∙◌, arith}
use borrow.Author.Rules.{part_to_end}
use Rattle.decimal.specs.Digits.{value_from, digits_up_to}
use Rattle.text_parts.specs.Parts.{parts, before}
use Rattle.text_parts.proofs.Parts.{parts-one}
use Rattle.arpa_logs.specs.Logs.{decimals, fraction, unsigned}
use Rattle.arpa_logs.proofs.Logs.{unsigned-no-whole, unsigned-both}
use Rattle.arpa_logs.proofs.read_size.Goals as goal

pub returns-in_err-read_whole-in-Some-clause-units : goal.returns-in_err-read_whole-in-Some-clause-units
returns-in_err-read_whole-in-Some-clause-units c =
    let e = c.in-Some.ensures in
    c.from_residual.ensures ∙ sym (unsigned-no-whole c.args.text.now c.in-Some.point e.0 (omega arith) c.in_err-read_whole-in-Some.ensures)

pub returns-in_err-read_fraction-in-Some-clause-units : goal.returns-in_err-read_fraction-in-Some-clause-units
returns-in_err-read_fraction-in-Some-clause-units c =
    let text = c.args.text.now in
    let point = c.in-Some.point in
    let e = c.in-Some.ensures in
    let whole = c.in_ok-read_whole-in-Some.ensures in
    let part : digits_up_to decimals (drop (point + 1) text) ≡ false =
    ap (digits_up_to decimals) (sym (part_to_end text (point + 1))) ∙ c.in_err-read_fraction-in-Some.ensures in
    c.from_residual-in_err-read_fraction-in-Some.ensures ∙ sym (unsigned-both text point e.0 e.1 whole.0 ∙ rw part refl)

pub returns-in_ok-read_fraction-in-Some-clause-units : goal.returns-in_ok-read_fraction-in-Some-clause-units
returns-in_ok-read_fraction-in-Some-clause-units c =
    let text = c.args.text.now in
    let point = c.in-Some.point in
    let e = c.in-Some.ensures in
    let whole = c.in_ok-read_whole-in-Some.ensures in
    let part = c.in_ok-read_fraction-in-Some.ensures in
    let r = part_to_end text (point + 1) in
    let d : digits_up_to decimals (drop (point + 1) text) ≡ true = ap (digits_up_to decimals) (sym r) ∙ part.0 in
    let f : c.in_ok-read_fraction-in-Some.field-0 ≡ fraction (drop (point + 1) text) = part.1 ∙ ap fraction r in
    sym (unsigned-both text point e.0 e.1 whole.0 ∙ rw (d, whole.1, f) refl)

no_point : (text : List ℕ) (r : Option ℕ) → before 46 text ≡ length text
    → MatchOption r (digits_up_to 3 text ≡ false) (λ (n : ℕ). (digits_up_to 3 text ≡ true) × (n ≡ value_from 0 text * 10 ^ decimals) × (n ≤ 999 * 10 ^ decimals))
    → r ≡ unsigned (parts 46 text)
unfolding unsigned
no_point text None h e = rw (parts-one 46 text h, e) refl
no_point text (Some n) h e = rw (parts-one 46 text h, e.0, e.1) refl

pub returns-in-None-clause-units : goal.returns-in-None-clause-units
returns-in-None-clause-units c = no_point c.args.text.now c.read_whole-in-None.result c.in-None.ensures c.read_whole-in-None.ensures
