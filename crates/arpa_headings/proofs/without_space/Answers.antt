-- `arpa_headings::without_space`, by the first byte.
use Rattle.std.proofs.Common.{◌≡◌, ℕ, ◌-◌, ◌<◌, ◌≤◌, List, [], ◌∷◌, length, get_or, drop, refl, ◌∙◌, arith, take_all, length-drop}
use borrow.Author.Tests.{eq-eqb, ne_eqb}
use Rattle.arpa_headings.specs.Headings.{without_space}
use Rattle.arpa_headings.proofs.without_space.Goals as goal

none : (text : List ℕ) → length text < 1 → text ≡ without_space text
unfolding without_space
none [] h = refl
none (c ∷ text) h = absurd (omega arith)

space_first : (text : List ℕ) → 1 ≤ length text → get_or text 0 0 ≡ 32 → drop 1 text ≡ without_space text
unfolding without_space
space_first [] h e = absurd (omega arith)
space_first (c ∷ text) h e = rw (eq-eqb c 32 e) refl

other_first : (text : List ℕ) → 1 ≤ length text → (get_or text 0 0 ≡ 32 → ⊥) → text ≡ without_space text
unfolding without_space
other_first [] h e = absurd (omega arith)
other_first (c ∷ text) h e = rw (ne_eqb c 32 e) refl

pub returns-in-32 : goal.returns-in-32
returns-in-32 c =
    let text = c.args.text.now in
    take_all (length text - 1) (drop 1 text) (omega (arith, length-drop {A = ℕ})) ∙ space_first text c.in-32.len_at_least (omega arith)

pub returns-in_default : goal.returns-in_default
returns-in_default c = none c.args.text.now c.in_default.len_below

pub returns-in_default-2 : goal.returns-in_default-2
returns-in_default-2 c = other_first c.args.text.now c.in_default.len_at_least (λ e. omega arith)
