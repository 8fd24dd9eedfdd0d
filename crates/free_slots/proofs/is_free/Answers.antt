-- A slot's CHECK is a link exactly where the slot is free; slots past the end are.
use mathlib.Core.Path.{sym, ap, ◌∙◌}
use native.Mathlib.Omega.{arith}
use lib.IntN.{pos}
use mir.Syntax.{w32}
use mir.Val.{SFits}
use mir.Facts.{to_z-of_z}
use borrow.Author.Rules.{rules}
use Rattle.placing.proofs.FirstFit.{is_free-yes}
use Rattle.free_slots.specs.Chain.{is_link}
use Rattle.free_slots.proofs.Chain.{linked-check-length, free_told}
use Rattle.free_slots.proofs.is_free.Goals as goal

pub returns-in-Some : goal.returns-in-Some
returns-in-Some c N b room base L p =
    let f : SFits w32 c.in-Some.link.now = search rules in
    let read = c.in-Some.ensures.lookup.3 in
    ap is_link (to_z-of_z f ∙ read.1 (pos 0)) ∙ free_told L c.args.t p (omega (arith, read.0, linked-check-length L))

pub returns-in-None : goal.returns-in-None
returns-in-None c N b room base L p =
    sym (is_free-yes (room c.args.t) (L.past c.args.t (omega (arith, c.in-None.ensures.lookup, linked-check-length L))))
