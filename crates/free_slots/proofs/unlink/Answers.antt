use mathlib.Core.Path.{◌≡◌, ◌∙◌}
use mathlib.Core.Bool.{true, false}
use native.Mathlib.Omega.{arith}
use lib.IntN.{pos}
use lib.ListN.{get_or}
use mir.Syntax.{w32}
use mir.Val.{SFits, to_z}
use mir.Facts.{to_z-of_z}
use borrow.Author.Rules.{rules}
use Rattle.free_slots.specs.Chain.{is_link, plain_base, plain_check}
use Rattle.free_slots.proofs.Linking.{passing-all, passed-both}
use Rattle.free_slots.proofs.unlink.Goals as goal
use Rattle.free_slots.proofs.unlink.Goals.{then-free, else-free, then-free-2, else-free-2}

pub loop-t-preserved : goal.loop-t-preserved
loop-t-preserved c =
    let t = c.loop-t.t in
    let load = get_or c.loop-t.base t (pos 0) in
    let link = get_or c.loop-t.check t (pos 0) in
    let f : SFits w32 load = search rules in
    let g : SFits w32 link = search rules in
    let e = to_z-of_z f in
    let d = to_z-of_z g in
    let x : to_z w32 c.if-free.base-bits ≡ plain_base load link = elim c.if-free.branch [
      | then-free w ↦ let k : is_link link ≡ true = rw d at w.if-free.true in rw k w.base-is
      | else-free w ↦ let k : is_link link ≡ false = rw d at w.if-free.false in rw k (w.base-is ∙ e)
    ] in
    let y : to_z w32 c.if-free-2.check-bits ≡ plain_check link = elim c.if-free-2.branch [
      | then-free-2 w ↦ let k : is_link link ≡ true = rw d at w.if-free-2.true in rw k w.check-is
      | else-free-2 w ↦ let k : is_link link ≡ false = rw d at w.if-free-2.false in rw k (w.check-is ∙ d)
    ] in
    passed-both c.loop-t.invariant.0 c.loop-t.invariant.1 _ _ (omega arith) (omega arith) x y

pub returns-clause-base : goal.returns-clause-base
returns-clause-base c = passing-all _ _ _ _ c.loop-t.invariant.0 (omega arith)

pub returns-clause-check : goal.returns-clause-check
returns-clause-check c = passing-all _ _ _ _ c.loop-t.invariant.1 (omega arith)
