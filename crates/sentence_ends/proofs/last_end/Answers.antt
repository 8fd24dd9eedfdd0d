use Rattle.std.proofs.Common.{sym, ◌∙◌, arith}
use Rattle.sentence_ends.proofs.Ends.{last_end-none, last_end-is}
use Rattle.sentence_ends.proofs.last_end.Goals as goal

pub returns-in-Some : goal.returns-in-Some
returns-in-Some c = let h = c.in-Some.ensures.item.3 in h.1 0 ∙ sym (last_end-is c.args.ends.now (λ z. omega (arith, h.0)))

pub returns-in-None : goal.returns-in-None
returns-in-None c = sym (last_end-none c.args.ends.now (omega (arith, c.in-None.ensures.item.3)))
