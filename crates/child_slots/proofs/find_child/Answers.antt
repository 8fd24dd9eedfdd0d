-- The code's tests are those of `child_at`.
use mathlib.Core.Path.{◌≡◌, ◌∙◌}
use mathlib.Core.Bool.{true, false, ◌&&◌}
use Prim.Native.Nat.{ℕ}
use native.Mathlib.Omega.{arith}
use lib.ListN.{get_or}
use lib.IntN.{pos}
use lib.Signed.{le_z}
use mir.Syntax.{w32}
use mir.Val.{SFits}
use mir.Facts.{to_z-of_z}
use borrow.Author.Rules.{rules}
use Rattle.std.specs.declared.ops.RangeInclusive.{RangeInclusive}
use Rattle.std.specs.Ordering.{nat_cmp, is_le, as_partial_cmp}
use Rattle.std.specs.Range.{range_inclusive_contains, range_inclusive_start, range_inclusive_end, range_inclusive_exhausted}
use Rattle.std.proofs.lemmas.Bool.Decides.{nat_tests}
use lib.Dec.{leb}
use Rattle.backoff.specs.Limits.{word_limit}
use Rattle.backoff.specs.Words.{is_word}
use Rattle.child_slots.specs.Children.{child_at}
use Rattle.child_slots.proofs.find_child.Goals as goal

le_told : (a b : ℕ) → is_le (nat_cmp a b) ≡ leb a b
le_told a b = grind (arith, nat_tests)

word_told : (s : RangeInclusive ℕ) (w : ℕ) → range_inclusive_start s ≡ 1 → range_inclusive_end s ≡ word_limit → range_inclusive_exhausted s ≡ false → range_inclusive_contains (as_partial_cmp nat_cmp) s w ≡ is_word w
unfolding is_word
word_told s w e f g = rw (e, f, g, le_told 1 w, le_told w word_limit)

pub returns-then-not-contains-d-clause-child : goal.returns-then-not-contains-d-clause-child
unfolding child_at
returns-then-not-contains-d-clause-child c =
    let f : SFits w32 (get_or c.args.base.now c.args.s (pos 0)) = search rules in
    let word = c.contains.ensures.value ∙ word_told c.new.result c.args.w c.new.ensures.start c.new.ensures.end c.new.ensures.exhausted in
    let e : (is_word c.args.w && le_z (pos 1) (get_or c.args.base.now c.args.s (pos 0))) ≡ false = rw (word, to_z-of_z f) at c.if-not-contains-d.true in
    rw e

pub returns-clause-child : goal.returns-clause-child
unfolding child_at
returns-clause-child c =
    let f : SFits w32 (get_or c.args.base.now c.args.s (pos 0)) = search rules in
    let word = c.contains.ensures.value ∙ word_told c.new.result c.args.w c.new.ensures.start c.new.ensures.end c.new.ensures.exhausted in
    let e : (is_word c.args.w && le_z (pos 1) (get_or c.args.base.now c.args.s (pos 0))) ≡ true = rw (word, to_z-of_z f) at c.if-not-contains-d.false in
    rw e (rw (to_z-of_z f) at c.on_either_side.ensures)
