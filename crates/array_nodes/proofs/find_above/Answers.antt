-- Where a test fails, slot t is no child of any node; where all pass, it is one of the node that is found.
use Rattle.std.proofs.Common.{pos, get_or, nat_abs, ap, ◌∙◌, rules, arith, w32}
use mir.Facts.{to_z-of_z}
use mir.Val.{SFits}
use Rattle.integer.proofs.Arithmetic.{zarith, abs_le}
use Rattle.double_array.proofs.DoubleArray.{opened-sizes}
use Rattle.array_nodes.proofs.Climb.{child_climbs}
use Rattle.array_nodes.proofs.FoundAbove.{no-parent, natural-above, slot_is, base_is, none_found, one_found}
use Rattle.array_nodes.proofs.find_above.Goals as goal

pub returns-then-s-lt0 : goal.returns-then-s-lt0
returns-then-s-lt0 c s w q =
    let f : SFits w32 (get_or c.args.array.check.now c.args.t (pos 0)) = search rules in
    let n = natural-above c.args.array.base.now c.args.array.check.now c.args.t (child_climbs _ _ s w _ q) in
    omega (zarith, n, to_z-of_z f, c.if-s-lt0.true)

pub returns-in_err-d : goal.returns-in_err-d
returns-in_err-d c =
    let f : SFits w32 (get_or c.args.array.check.now c.args.t (pos 0)) = search rules in
    let e = ap nat_abs (to_z-of_z f) in
    no-parent _ _ _ _ c.from_residual.ensures (λ s w k. let z = slot_is _ _ _ _ e k in omega (arith, k.parent-inside, c.in_err-d.ensures.lookup.3))

pub returns-then-d-lt1 : goal.returns-then-d-lt1
returns-then-d-lt1 c s w q =
    let f : SFits w32 (get_or c.args.array.check.now c.args.t (pos 0)) = search rules in
    let e = ap nat_abs (to_z-of_z f) in
    let x = c.in_ok-d.ensures.lookup.3.1 (pos 0) in
    let g : SFits w32 c.in_ok-d.field-0.now = search rules in
    let k = child_climbs c.args.array.base.now c.args.array.check.now s w c.args.t q in
    let z = x ∙ base_is _ _ _ _ e k in
    omega (zarith, z, k.base-least, to_z-of_z g, c.if-d-lt1.true)

pub overflow_cast-word : goal.overflow_cast-word
overflow_cast-word c =
    let g : SFits w32 c.in_ok-d.field-0.now = search rules in
    let d = ap nat_abs (to_z-of_z g) in
    let z = opened-sizes _ _ c.args.array.is_array in
    omega (arith, d, abs_le g, c.word_at-word.ensures, c.requires, z.same, z.high)

pub find_child-requires-clause-base_len_bound : goal.find_child-requires-clause-base_len_bound
find_child-requires-clause-base_len_bound c = (opened-sizes _ _ c.args.array.is_array).high

pub returns-in_err-found : goal.returns-in_err-found
returns-in_err-found c =
    let f : SFits w32 (get_or c.args.array.check.now c.args.t (pos 0)) = search rules in
    let e = ap nat_abs (to_z-of_z f) in
    let x = c.in_ok-d.ensures.lookup.3.1 (pos 0) in
    let g : SFits w32 c.in_ok-d.field-0.now = search rules in
    let d = ap nat_abs (to_z-of_z g ∙ x) in
    none_found _ _ _ _ _ _ _ c.from_residual-in_err-found.ensures e d c.word_at-word.ensures c.in_err-found.ensures.child

pub returns : goal.returns
returns c =
    let f : SFits w32 (get_or c.args.array.check.now c.args.t (pos 0)) = search rules in
    let e = ap nat_abs (to_z-of_z f) in
    let x = c.in_ok-d.ensures.lookup.3.1 (pos 0) in
    let g : SFits w32 c.in_ok-d.field-0.now = search rules in
    let d = ap nat_abs (to_z-of_z g ∙ x) in
    one_found _ _ _ _ _ _ _ _ c.then_some.ensures e d c.word_at-word.ensures c.in_ok-found.ensures.child
