-- The children behind d reach no further than d, and those ahead as far as the last.
use native.Mathlib.Omega.{arith}
use Rattle.first_fit.specs.Steps.{oldest_of}
use Rattle.first_fit.proofs.OldestWords.{reach-behind}
use Rattle.first_fit.proofs.new_top.Goals as goal
use Rattle.first_fit.proofs.new_top.Goals.{then-fit, else-fit}

pub returns : goal.returns
returns c =
    elim c.if-fit.branch [
      | then-fit w ↦ rw w.if-fit.true (omega (arith, c.max.ensures, w.farthest-is, reach-behind c.args.top c.args.fit.d (oldest_of c.args.rows.now)))
      | else-fit w ↦ rw w.if-fit.false (omega (arith, c.max.ensures, w.farthest-is, w.last_word.ensures.farthest c.requires.1 c.args.top c.args.fit.d))
    ]
