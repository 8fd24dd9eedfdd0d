-- The code's tests of slots 0 and 1 are the specification's.
use mathlib.Core.Bool.{Bool, ◌&&◌, and_assoc}
use mathlib.Core.Path.{◌≡◌, ◌∙◌}
use native.Mathlib.Omega.{arith}
use lib.ListN.{get_or}
use lib.IntN.{pos, negsuc}
use mir.Syntax.{w32}
use mir.Val.{SFits}
use mir.Facts.{sfits_lit}
use Rattle.integer.proofs.Arithmetic.{bits_test}
use Rattle.integer.proofs.Items.{get_or-inside}
use Rattle.integer.specs.Integer.{eq_z, between}
use Rattle.backoff.specs.Limits.{order_limit, row_limit}
use Rattle.child_slots.specs.Children.{free_check}
use Rattle.markers.proofs.Tests.{between_told}
use Rattle.double_array.specs.DoubleArray.{head_check, order_ok, head_ok}
use borrow.Author.Rules.{rules}
use Rattle.double_array.proofs.head_ok.Goals as goal

-- the four tests, as the code joins them and as `head_ok` does
regroup : (a b c d : Bool) → (a && b && c && d) ≡ (a && (b && (c && d)))
regroup a b c d = simp and_assoc

pub returns : goal.returns
unfolding head_ok order_ok
returns c =
    let b = c.args.base.now in
    let k = c.args.check.now in
    let f : SFits w32 (get_or b 0 (pos 0)) = search rules in
    let g : SFits w32 (get_or k 1 (pos 0)) = search rules in
    let order = between_told c.new.result _ _ (get_or k 0 (pos 0)) c.new.ensures.start c.new.ensures.end c.new.ensures.exhausted in
    let rows = between_told c.new-2.result _ _ (get_or b 1 (pos 0)) c.new-2.ensures.start c.new-2.ensures.end c.new-2.ensures.exhausted in
    rw (get_or-inside k 0 free_check (pos 0) (omega arith), get_or-inside k 1 free_check (pos 0) (omega arith), c.contains.ensures.value ∙ order, c.contains-2.ensures.value ∙ rows)
    (simp (bits_test {b = pos 1} f (sfits_lit tt), bits_test {b = negsuc 0} g (sfits_lit tt))
    (regroup (eq_z (get_or b 0 (pos 0)) (pos 1)) (between (head_check 1) (head_check order_limit) (get_or k 0 (pos 0))) (eq_z (get_or k 1 (pos 0)) (negsuc 0)) (between (pos 3) (pos row_limit) (get_or b 1 (pos 0)))))
