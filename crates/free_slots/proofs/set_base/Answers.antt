-- BASE of slot 0 does not show while there are links, and that of another taken slot is stored.
use native.Mathlib.Omega.{arith}
use mir.Facts.{to_z-of_z}
use Rattle.free_slots.proofs.Chain.{linked-set, linked-head}
use Rattle.free_slots.proofs.set_base.Goals as goal

pub returns-then-s-ne0 : goal.returns-then-s-ne0
returns-then-s-ne0 c N b room check L taken = rw (to_z-of_z c.ranges.value) (linked-set L c.args.s taken c.args.value (omega (arith, c.if-s-ne0.true)))

pub returns-else-s-ne0 : goal.returns-else-s-ne0
returns-else-s-ne0 c N b room check L taken = linked-head L c.args.s taken c.args.value c.if-s-ne0.false
