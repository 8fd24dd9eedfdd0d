-- Where d is not above w there is no slot behind it.
use mathlib.Core.Path.{sym, ◌∙◌}
use Prim.Native.Nat.{◌-◌, ◌≤◌}
use native.Mathlib.Omega.{arith}
use borrow.Author.Tests.{le-ltb}
use Rattle.placing.proofs.FirstFit.{open_none}
use Rattle.first_fit.proofs.OldestWords.{open_is}
use Rattle.first_fit.proofs.is_open_behind.Goals as goal

pub returns-then-w-d : goal.returns-then-w-d
returns-then-w-d c N b room base L =
    let p : 1 ≤ c.args.d - c.args.w = omega (arith, c.if-w-d.true) in
    c.is_free.ensures N b room base L p ∙ open_is room (c.args.d - c.args.w) p

pub returns-else-w-d : goal.returns-else-w-d
returns-else-w-d c N b room base L = rw (le-ltb c.args.w c.args.d c.if-w-d.false) (sym (open_none room c.args.d c.args.w c.if-w-d.false))
