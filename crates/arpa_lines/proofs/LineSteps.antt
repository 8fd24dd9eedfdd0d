-- Laws of a line by its stage. Assumes nothing.
use mathlib.Core.Path.{◌≡◌, refl, ap}
use mathlib.Core.Bool.{Bool, cond}
use mathlib.Core.List.{List, [], ◌∷◌}
use Prim.Native.Nat.{ℕ}
use native.Mathlib.Omega.{arith}
use lib.IntN.{ℤ}
use lib.ListN.{length}
use Rattle.arpa_text.specs.Lines.{read_row}
use Rattle.arpa_sections.specs.Sections.{Reading, goes, closes, close_section}
use Rattle.arpa_sections.specs.Held.{Held}
use Rattle.arpa_sections.specs.declared.Stage.{Stage}
use Rattle.arpa_sections.specs.declared.Progress.{Progress}
use Rattle.arpa_sections.proofs.Stages.{announced-length}
use Rattle.arpa_lines.specs.Reading.{row_step, section_step, stage_step, line_step}

pub section_step_lem : (room size : ℕ) (t : List ℤ) (s : List ℕ) (p : Progress) (a : Reading) (h : Held room size t s p a) (m : ℕ) (line : List ℕ) (b : Bool) → b ≡ closes m p.order line → section_step room size m a line ≡ cond b (close_section m a) (row_step room size m a (read_row m line))
unfolding section_step
section_step_lem room size t s p a h m line b e = rw (announced-length room size t s p a h, e)

pub line_empty : (room size : ℕ) (a : Reading) (line : List ℕ) → length line ≡ 0 → line_step room size a line ≡ goes a
unfolding line_step
line_empty room size a [] e = refl
line_empty room size a (c ∷ line) e = absurd (omega arith)

pub line_at : (room size : ℕ) (a : Reading) (line : List ℕ) (st : Stage) → (length line ≡ 0 → ⊥) → a.stage ≡ st → line_step room size a line ≡ stage_step room size st a line
unfolding line_step
line_at room size a [] st n e = absurd (n refl)
line_at room size a (c ∷ line) st n e = ap (λ (x : Stage). stage_step room size x a (c ∷ line)) e
