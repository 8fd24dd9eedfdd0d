-- Where the last child's slot is open, and each child's slot is.
use mathlib.Core.Path.{◌≡◌, sym, ap, ◌∙◌}
use mathlib.Core.Bool.{true}
use Prim.Native.Nat.{ℕ, ◌-◌}
use native.Mathlib.Omega.{arith}
use Rattle.rows.specs.Table.{rows_of}
use Rattle.child_slots.specs.Children.{child_slot}
use Rattle.placing.specs.Placing.{is_open, all_open}
use Rattle.first_fit.specs.Steps.{oldest_from, oldest_of}
use Rattle.first_fit.proofs.OldestWords.{first_fails, open_step, open_fails, open_end}
use Rattle.first_fit.proofs.all_open_behind.Goals as goal

pub returns-then-not-is_open_behind : goal.returns-then-not-is_open_behind
returns-then-not-is_open_behind c N b room base L h =
    let a = c.args in
    let tested = sym (c.is_open_behind.ensures N b room base L) ∙ c.if-not-is_open_behind.true in
    sym (c.requires.1.same room true a.d h ∙ first_fails room true a.d a.last (oldest_of a.rows.now) tested)

pub loop-k-init : goal.loop-k-init
loop-k-init c N b room base L =
    let rows = c.args.rows.now in
    let all : rows_of rows ≡ rows_of rows - 0 = omega arith in
    ap (λ (n : ℕ). all_open room true c.args.d (oldest_from rows 0 n)) all

pub returns-then-not-is_open_behind-2 : goal.returns-then-not-is_open_behind-2
unfolding rows_of
returns-then-not-is_open_behind-2 c N b room base L h =
    let a = c.args in
    let k = c.loop-k.k in
    let tested = ap (λ (w : ℕ). is_open room (child_slot true a.d w)) (sym c.oldest_word.ensures.0) ∙ sym (c.is_open_behind-in-loop-k.ensures N b room base L) ∙ c.if-not-is_open_behind-2.true in
    sym (c.loop-k.invariant N b room base L ∙ open_fails a.rows.now k (rows_of a.rows.now) room true a.d c.loop-k-test.true tested)

pub loop-k-preserved : goal.loop-k-preserved
unfolding rows_of
loop-k-preserved c N b room base L =
    let a = c.args in
    let k = c.loop-k.k in
    let tested = ap (λ (w : ℕ). is_open room (child_slot true a.d w)) (sym c.oldest_word.ensures.0) ∙ sym (c.is_open_behind-in-loop-k.ensures N b room base L) ∙ c.if-not-is_open_behind-2.false in
    c.loop-k.invariant N b room base L ∙ open_step a.rows.now k (rows_of a.rows.now) room true a.d c.loop-k-test.true tested

pub returns : goal.returns
unfolding rows_of
returns c N b room base L h =
    let a = c.args in
    sym (c.loop-k.invariant N b room base L ∙ open_end a.rows.now c.loop-k.k (rows_of a.rows.now) room true a.d c.loop-k-test.false)
