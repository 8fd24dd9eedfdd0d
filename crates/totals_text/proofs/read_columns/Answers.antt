-- `totals_text::read_columns`: the column that was read stands first among those that are left.
use Rattle.std.proofs.Common.{◌≡◌, ℕ, ℤ, ◌+◌, ◌*◌, ◌-◌, ◌<◌, ◌&&◌, true, false, List, map, length, take, drop, Option, Some, None, w32, sym, refl, ap, ◌∙◌, rules}
use Rattle.std.specs.Int.Signed.{le_z}
use mir.Val.{SFits, to_z, of_z}
use mir.Facts.{to_z-of_z}
use lib.ListN.{length-map}
use Rattle.integer.proofs.Arithmetic.{zarith}
use Rattle.integer.proofs.Stores.{sets-whole}
use Rattle.columns.specs.Columns.{read_column}
use Rattle.totals_text.specs.Lines.{columns, in_form, all_in_form, column_value}
use Rattle.totals_text.proofs.Lines.{length-columns, columns-step, columns-none, fill_step, fill_end}
use Rattle.totals_text.proofs.read_columns.Goals as goal

-- the column at i, and those behind it
here : (width : ℕ) (line : List ℕ) (count i : ℕ) (least : ℤ) → i < count → (r : Option ℤ) → r ≡ read_column width (take (width * i + width - width * i) (drop (width * i) line))
    → all_in_form least (columns width (count - i) (drop (width * i) line)) ≡ (in_form least r && all_in_form least (columns width (count - (i + 1)) (drop (width * (i + 1)) line)))
unfolding all_in_form
here width line count i least h r e = rw (columns-step width line count i h, e) refl

pub returns-in_default-clause-answer : goal.returns-in_default-clause-answer
unfolding in_form
returns-in_default-clause-answer c =
    let a = c.args in
    let count = length a.numbers.now in
    sym
    (ap (λ (y : ℤ). all_in_form y (columns a.width count a.line.now)) (sym (to_z-of_z c.ranges.least))
    ∙ c.loop-i.invariant.left
    ∙ here a.width a.line.now count c.loop-i.i (to_z w32 (of_z w32 a.least)) c.loop-i-test.true None c.in_default.ensures.answer)

pub returns-then-z-least-clause-answer : goal.returns-then-z-least-clause-answer
unfolding in_form
returns-then-z-least-clause-answer c =
    let a = c.args in
    let count = length a.numbers.now in
    let low = to_z w32 (of_z w32 a.least) in
    let f : SFits w32 c.in-Some.z = search rules in
    let e : le_z low c.in-Some.z ≡ false = omega zarith in
    sym
    (ap (λ (y : ℤ). all_in_form y (columns a.width count a.line.now)) (sym (to_z-of_z c.ranges.least))
    ∙ c.loop-i.invariant.left
    ∙ here a.width a.line.now count c.loop-i.i low c.loop-i-test.true (Some c.in-Some.z) c.in-Some.ensures.answer
    ∙ rw e refl)

pub loop-i-preserved : goal.loop-i-preserved
unfolding in_form column_value
loop-i-preserved c =
    let a = c.args in
    let count = length a.numbers.now in
    let low = to_z w32 (of_z w32 a.least) in
    let f : SFits w32 c.in-Some.z = search rules in
    let e : le_z low c.in-Some.z ≡ true = omega zarith in
    record {
      left = c.loop-i.invariant.left
          ∙ here a.width a.line.now count c.loop-i.i low c.loop-i-test.true (Some c.in-Some.z) c.in-Some.ensures.answer
          ∙ rw e refl;
      filling = fill_step column_value a.width a.line.now count a.numbers.now c.loop-i.numbers c.loop-i.i (to_z w32 (of_z w32 c.in-Some.z)) c.loop-i-test.true
          (to_z-of_z f ∙ ap column_value c.in-Some.ensures.answer) c.loop-i.invariant.filling;
    }

pub returns-clause-answer : goal.returns-clause-answer
unfolding all_in_form
returns-clause-answer c =
    let a = c.args in
    let count = length a.numbers.now in
    let low = to_z w32 (of_z w32 a.least) in
    sym
    (ap (λ (y : ℤ). all_in_form y (columns a.width count a.line.now)) (sym (to_z-of_z c.ranges.least))
    ∙ c.loop-i.invariant.left
    ∙ ap (all_in_form low) (columns-none a.width a.line.now count c.loop-i.i c.loop-i-test.false))

pub returns-clause-numbers : goal.returns-clause-numbers
returns-clause-numbers c =
    let a = c.args in
    let count = length a.numbers.now in
    let cs = columns a.width count a.line.now in
    λ t.
    fill_end column_value a.width a.line.now count a.numbers.now c.loop-i.numbers c.loop-i.i c.loop-i-test.false c.loop-i.invariant.filling
    ∙ sets-whole a.numbers.now (map column_value cs) (length-map cs column_value ∙ length-columns a.width count a.line.now)
