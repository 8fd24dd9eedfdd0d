-- A word that is too large has no child, and for the others slot 1 + w decides alone.
use mathlib.Core.Path.{◌≡◌, refl, sym, ◌∙◌}
use mathlib.Core.Bool.{true, false, ◌&&◌}
use Prim.Native.Nat.{ℕ, ◌<◌}
use borrow.Author.Tests.{lt-leb}
use lib.Dec.{leb}
use Rattle.backoff.specs.Limits.{word_limit}
use Rattle.backoff.specs.Words.{is_word}
use Rattle.child_slots.proofs.Children.{root_owned}
use Rattle.child_slots.proofs.root_child.Goals as goal

too_large : (w : ℕ) → word_limit < w → is_word w ≡ false
unfolding is_word
too_large w h = rw (lt-leb w word_limit h) (elim (leb 1 w) as (λ b. (b && false) ≡ false) [ true ↦ refl | false ↦ refl ])

pub returns-then-w : goal.returns-then-w
returns-then-w c = rw (too_large c.args.w c.if-w.true)

pub returns : goal.returns
returns c = c.owned_by.ensures ∙ sym (root_owned c.args.check.now c.args.w c.requires c.if-w.false)
