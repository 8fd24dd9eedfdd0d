use Rattle.std.proofs.Common.{rules, ◌≤◌, arith, refl, leb}
use borrow.Author.Tests.{leb-true}
use mir.Syntax.{w32}
use mir.Val.{SFits}
use mir.Facts.{to_z-of_z}
use Rattle.integer.proofs.Ranges.{and_right}
use Rattle.backoff.specs.Limits.{word_limit}
use Rattle.backoff.specs.Words.{is_word}
use Rattle.word_step.proofs.answered.Goals as goal

pub overflow_add-result : goal.overflow_add-result
unfolding is_word
overflow_add-result c =
    let h : c.args.word ≤ word_limit = leb-true c.args.word word_limit (and_right (leb 1 c.args.word) (leb c.args.word word_limit) c.requires.0) in
    omega (arith, c.from.ensures)

pub returns : goal.returns
returns c =
    let f : SFits w32 c.args.walked.points = search rules in
    let g : SFits w32 c.args.walked.kept.owed = search rules in
    rw (to_z-of_z f, to_z-of_z g, c.kind_of.ensures, c.from.ensures) refl
