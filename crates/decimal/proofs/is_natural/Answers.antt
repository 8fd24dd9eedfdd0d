-- `decimal::is_natural`, by the first character.
use Rattle.std.proofs.Common.{◌≡◌, ℕ, ◌-◌, ◌<◌, ◌≤◌, false, eqb, List, [], ◌∷◌, length, get_or, take, drop, refl, ◌∙◌, arith, length-take, length-drop}
use borrow.Author.Tests.{eq-eqb, ne_eqb}
use Rattle.decimal.specs.Digits.{all_digits, is_natural}
use Rattle.decimal.proofs.is_natural.Goals as goal

none : (text : List ℕ) → length text < 1 → false ≡ is_natural text
unfolding is_natural
none [] h = refl
none (c ∷ text) h = absurd (omega arith)

zero_first : (text : List ℕ) → 1 ≤ length text → get_or text 0 0 ≡ 48 → eqb (length (drop 1 text)) 0 ≡ is_natural text
unfolding is_natural
zero_first [] h e = absurd (omega arith)
zero_first (c ∷ text) h e = rw (eq-eqb c 48 e) refl

other_first : (text : List ℕ) → 1 ≤ length text → (get_or text 0 0 ≡ 48 → ⊥) → all_digits text ≡ is_natural text
unfolding is_natural
other_first [] h e = absurd (omega arith)
other_first (c ∷ text) h e = rw (ne_eqb c 48 e) refl

pub returns-in-empty : goal.returns-in-empty
returns-in-empty c = none c.args.text.now c.in-empty.len_below

pub returns-in-48 : goal.returns-in-48
returns-in-48 c =
    let text = c.args.text.now in
    let all : length (take (length text - 1) (drop 1 text)) ≡ length (drop 1 text) = omega (arith, length-take {A = ℕ}, length-drop {A = ℕ}) in
    c.is_empty.ensures ∙ rw all (zero_first text c.in-48.len_at_least (omega arith))

pub returns-in_default : goal.returns-in_default
returns-in_default c = c.all_digits.ensures ∙ other_first c.args.text.now c.in_default.len_at_least (λ e. omega arith)
