-- `word_walk::longest_live` meets its contract. Assumes nothing.
use mathlib.Core.Path.{◌≡◌, sym, ap, ◌∙◌}
use mathlib.Core.Bool.{Bool, true, false, not, ◌||◌}
use lib.Dec.{eqb}
use lib.IntN.{pos}
use mir.Val.{of_z}
use mir.Syntax.{w32}
use mir.Facts.{sfits_lit, to_z-of_z}
use Rattle.integer.specs.Integer.{eq_z}
use Rattle.integer.proofs.Arithmetic.{bits_test}
use Rattle.word_walk.proofs.longest_live.Statement.{statement}
use Rattle.word_walk.proofs.longest_live.Tie as tie

-- the code's test, whose value it has
test : (c : tie.Start) (t : Bool) → (not (eqb (of_z w32 c.args.b) 0) || c.args.f) ≡ t → (not (eq_z c.args.b (pos 0)) || c.args.f) ≡ t
test c t e = ap (λ (u : Bool). not u || c.args.f) (sym (bits_test {b = pos 0} c.ranges.b (sfits_lit tt))) ∙ e

returns : tie.Need-returns-then-b-f
returns c = rw (to_z-of_z c.ranges.owed, test c.before true c.if-b-f.true)

returns_2 : tie.Need-returns-else-b-f
returns_2 c = rw (test c.before false c.if-b-f.false)

pub longest_live_spec : {M : Type 1} → statement M
longest_live_spec = tie.close (tie.spec returns returns_2)
