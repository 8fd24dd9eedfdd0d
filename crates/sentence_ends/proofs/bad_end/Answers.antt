use Rattle.std.proofs.Common.{sym, ◌∙◌, add-one, ◌+◌}
use Rattle.sentence_ends.proofs.Ends.{bad_end-here, bad_end-later, bad_end-none}
use Rattle.sentence_ends.proofs.bad_end.Goals as goal

pub returns-then-end-before : goal.returns-then-end-before
returns-then-end-before c = sym (c.loop-i.invariant ∙ bad_end-here c.args.words (c.loop-i.i + 1) c.loop-i.before c.args.ends.now c.loop-i.i c.loop-i-test.true c.then-end-before.either ∙ add-one c.loop-i.i)

pub loop-i-preserved : goal.loop-i-preserved
loop-i-preserved c = c.loop-i.invariant ∙ bad_end-later c.args.words (c.loop-i.i + 1) c.loop-i.before c.args.ends.now c.loop-i.i c.loop-i-test.true c.if-end-before.false c.if-words-end.false

pub returns : goal.returns
returns c = sym (c.loop-i.invariant ∙ bad_end-none c.args.words (c.loop-i.i + 1) c.loop-i.before c.args.ends.now c.loop-i.i c.loop-i-test.false)
