-- `arpa_text::read_backoff`, by what is there.
use Rattle.std.proofs.Common.{◌≡◌, ℕ, ◌<◌, ◌≤◌, List, [], ◌∷◌, length, drop, Some, pos, ap, refl, ◌∙◌, arith}
use borrow.Author.Rules.{part_to_end}
use Rattle.arpa_logs.specs.Logs.{read_points}
use Rattle.arpa_text.specs.Held.{backoff_behind}
use Rattle.arpa_text.proofs.read_backoff.Goals as goal

none : (text : List ℕ) → length text < 1 → Some (pos 0) ≡ backoff_behind text
unfolding backoff_behind
none [] h = refl
none (c ∷ text) h = absurd (omega arith)

some : (text : List ℕ) → 1 ≤ length text → read_points (drop 1 text) ≡ backoff_behind text
unfolding backoff_behind
some [] h = absurd (omega arith)
some (c ∷ text) h = refl

pub returns-in-empty : goal.returns-in-empty
returns-in-empty c = none c.args.behind.now c.in-empty.len_below

pub returns-in-len1-up : goal.returns-in-len1-up
returns-in-len1-up c =
    let behind = c.args.behind.now in
    c.read_points.ensures ∙ ap read_points (part_to_end behind 1) ∙ some behind c.in-len1-up.len_at_least
