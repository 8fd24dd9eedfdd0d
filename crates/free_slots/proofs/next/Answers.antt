-- BASE of a slot in the chain tells how far the next one is.
use mathlib.Core.Path.{ap, ◌∙◌}
use native.Mathlib.Omega.{arith}
use lib.IntN.{pos, nat_abs}
use lib.ListN.{get_or}
use mir.Syntax.{w32}
use mir.Val.{SFits}
use mir.Facts.{to_z-of_z}
use borrow.Author.Rules.{rules}
use Rattle.integer.proofs.Arithmetic.{zarith, to_nat}
use Rattle.free_slots.proofs.Neighbours.{next-first}
use Rattle.free_slots.proofs.Chain.{linked-base-length, up-link}
use Rattle.free_slots.proofs.next.Goals as goal

pub returns : goal.returns
returns c N b room check L l h =
    let t = c.args.t in
    let f : SFits w32 (get_or c.args.base.now t (pos 0)) = search rules in
    omega (arith, ap nat_abs (to_z-of_z f ∙ up-link L t l h), (next-first room N t l).from)

pub bounds-base-t : goal.bounds-base-t
bounds-base-t c = omega (arith, linked-base-length c.requires.linked)

pub overflow_cast-result : goal.overflow_cast-result
overflow_cast-result c =
    let p = c.requires in
    let f : SFits w32 (get_or c.args.base.now c.args.t (pos 0)) = search rules in
    let e = up-link p.linked c.args.t p.inside p.member in
    to_nat tt f (omega zarith)
