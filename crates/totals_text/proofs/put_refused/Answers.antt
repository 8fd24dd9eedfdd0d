-- `totals_text::put_refused`: the seven letters are copied.
use Rattle.std.proofs.Common.{refl, sym}
use Rattle.backoff.specs.Run.{written}
use Rattle.totals_text.specs.Lines.{refused_word}
use Rattle.totals_text.proofs.Stores.{sets-written}
use Rattle.totals_text.proofs.put_refused.Goals as goal

pub returns-clause-place : goal.returns-clause-place
unfolding refused_word
returns-clause-place c = refl

pub returns-clause-text : goal.returns-clause-text
unfolding refused_word written
returns-clause-text c = rw c.copy_from_slice.ensures.after (sym (sets-written c.args.out.now refused_word c.requires))
