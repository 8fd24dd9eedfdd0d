-- TEXT begins with its first line, of which no character has come.
use Rattle.std.proofs.Common.{arith, refl}
use Rattle.text_parts.specs.Parts.{before}
use Rattle.totals.proofs.print_text.Goals as goal

pub loop-turn-init : goal.loop-turn-init
unfolding before
loop-turn-init g c = record { begun = record { buffer = refl; room = omega arith; no_end = refl }; number = omega arith }
