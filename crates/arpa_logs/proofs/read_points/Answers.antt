-- `arpa_logs::read_points`, by the first byte.
use Rattle.std.proofs.Common.{◌≡◌, ◌*◌, ◌^◌, ◌<◌, ℕ, ℤ, pos, neg_ℤ, ◌-ℤ◌, w32, List, drop, Some, None, sym, ap, refl, ◌∙◌, arith}
use mir.Val.{SFits, to_z, of_z}
use mir.Facts.{to_z-of_z}
use borrow.Author.Rules.{part_to_end}
use Rattle.std.proofs.Math.IntN.{+ℤ_idl}
use Rattle.integer.proofs.Arithmetic.{zarith}
use Rattle.text_parts.specs.Parts.{parts}
use Rattle.arpa_logs.specs.Logs.{decimals, unsigned, nearest, round_log}
use Rattle.arpa_logs.proofs.Logs.{points_none, points_minus, points_plain, round_negative}
use Rattle.arpa_logs.proofs.read_points.Goals as goal

pub returns-in-empty : goal.returns-in-empty
returns-in-empty c = points_none c.args.text.now c.in-empty.len_below

pub returns-in_err-read_size-in-45 : goal.returns-in_err-read_size-in-45
returns-in_err-read_size-in-45 c =
    let text = c.args.text.now in
    let u : unsigned (parts 46 (drop 1 text)) ≡ None = ap (λ (l : List ℕ). unsigned (parts 46 l)) (sym (part_to_end text 1)) ∙ sym c.in_err-read_size-in-45.ensures.units in
    c.from_residual.ensures ∙ sym (points_minus text c.in-45.len_at_least (omega arith) ∙ rw u refl)

pub returns-in_err-read_size-in_default : goal.returns-in_err-read_size-in_default
returns-in_err-read_size-in_default c =
    let text = c.args.text.now in
    c.from_residual-in_err-read_size-in_default.ensures
    ∙ sym (points_plain text c.in_default.len_at_least (λ e. omega arith) ∙ rw (sym c.in_err-read_size-in_default.ensures.units) refl)

-- the points, as the code has them, are few
held : (z : ℤ) (k : ℕ) → z ≡ pos (nearest k) → k < 1000 * 10 ^ decimals → (to_z w32 (of_z w32 z) ≡ pos (nearest k)) × (to_z w32 (of_z w32 (pos 0 -ℤ to_z w32 (of_z w32 z))) ≡ neg_ℤ (pos (nearest k)))
unfolding nearest
held z k e h =
    let f : SFits w32 (pos (nearest k)) = omega zarith in
    let g : SFits w32 (pos 0 -ℤ pos (nearest k)) = omega zarith in
    let p : to_z w32 (of_z w32 z) ≡ pos (nearest k) = ap (λ (y : ℤ). to_z w32 (of_z w32 y)) e ∙ to_z-of_z f in
    (p, ap (λ (y : ℤ). to_z w32 (of_z w32 (pos 0 -ℤ y))) p ∙ to_z-of_z g ∙ +ℤ_idl (neg_ℤ (pos (nearest k))))

pub returns-in_ok-read_size-in-45 : goal.returns-in_ok-read_size-in-45
returns-in_ok-read_size-in-45 c =
    let text = c.args.text.now in
    let k = c.in_ok-read_size-in-45.field-0 in
    let u : unsigned (parts 46 (drop 1 text)) ≡ Some k = ap (λ (l : List ℕ). unsigned (parts 46 l)) (sym (part_to_end text 1)) ∙ sym c.in_ok-read_size-in-45.ensures.units in
    let m = held c.nearest_point.result k c.nearest_point.ensures c.in_ok-read_size-in-45.ensures.small in
    ap Some m.1 ∙ sym (points_minus text c.in-45.len_at_least (omega arith) ∙ rw u (ap Some (round_negative k)))

pub returns-in_ok-read_size-in_default : goal.returns-in_ok-read_size-in_default
unfolding round_log
returns-in_ok-read_size-in_default c =
    let text = c.args.text.now in
    let k = c.in_ok-read_size-in_default.field-0 in
    let m = held c.nearest_point-in_default.result k c.nearest_point-in_default.ensures c.in_ok-read_size-in_default.ensures.small in
    ap Some m.0 ∙ sym (points_plain text c.in_default.len_at_least (λ e. omega arith) ∙ rw (sym c.in_ok-read_size-in_default.ensures.units) refl)
