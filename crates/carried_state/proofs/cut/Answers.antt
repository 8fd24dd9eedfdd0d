use Rattle.std.proofs.Common.{rules, ◌≡◌, ◌∙◌, ℤ, pos, List, [], ◌∷◌, take, length, arith, refl, ap, w32, get_or, SFits}
use mir.Facts.{to_z-of_z}
use native.Mathlib.Numerals.{add-one}
use Rattle.backoff.specs.NineNumbers.{padded}
use Rattle.carried_state.proofs.Parts.{cut-kept, cut-all, cut-set, cut-padded, padded-within, first-four}
use Rattle.carried_state.proofs.cut.Goals as goal
use Rattle.carried_state.proofs.cut.Goals.{then-kept-i, else-kept-i}

pub loop-i-init : goal.loop-i-init
loop-i-init c = refl

pub loop-i-preserved : goal.loop-i-preserved
loop-i-preserved c =
    let l = c.loop-i in
    rw add-one (elim c.if-kept-i.branch [
      | then-kept-i w ↦ w.part-is ∙ rw l.invariant (cut-set l.i c.args.kept _ w.if-kept-i.true (omega arith))
      | else-kept-i w ↦ w.part-is ∙ l.invariant ∙ cut-kept l.i c.args.kept _ w.if-kept-i.false
    ])

pub returns : goal.returns
returns c =
    let n : length c.args.items ≡ 5 = search rules in
    let e : SFits w32 (get_or c.args.items 0 (pos 0)) = search rules in
    let f : SFits w32 (get_or c.args.items 1 (pos 0)) = search rules in
    let g : SFits w32 (get_or c.args.items 2 (pos 0)) = search rules in
    let h : SFits w32 (get_or c.args.items 3 (pos 0)) = search rules in
    let four : List ℤ = get_or c.args.items 0 (pos 0) ∷ get_or c.args.items 1 (pos 0) ∷ get_or c.args.items 2 (pos 0) ∷ get_or c.args.items 3 (pos 0) ∷ [] in
    c.loop-i.invariant
    ∙ cut-all c.loop-i.i c.args.kept _ (omega arith)
    ∙ rw (to_z-of_z e, to_z-of_z f, to_z-of_z g, to_z-of_z h) (cut-padded c.args.kept four ∙ ap (λ (p : List ℤ). padded 4 (take c.args.kept p)) (first-four c.args.items (omega arith)) ∙ padded-within 4 c.args.kept c.args.items)
