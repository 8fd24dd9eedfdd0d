-- The number is a word, so the cast keeps it.
use mathlib.Core.Path.{sym, ap, ◌∙◌}
use lib.ListN.{get_or}
use lib.IntN.{pos, nat_abs}
use Prim.Native.Nat.{◌+◌, ◌*◌}
use mir.Syntax.{w32}
use mir.Val.{SFits}
use mir.Facts.{to_z-of_z}
use borrow.Author.Rules.{rules}
use Rattle.integer.proofs.Ranges.{between_cast, up_to_in, up_to_le}
use Rattle.backoff.specs.Limits.{word_limit}
use Rattle.rows.specs.Table.{field}
use Rattle.first_fit.proofs.oldest_word.Goals as goal

pub overflow_cast-result : goal.overflow_cast-result
unfolding field
overflow_cast-result c =
    let f : SFits w32 (get_or c.args.rows.now (8 * c.args.k + 1) (pos 0)) = search rules in
    between_cast (pos word_limit) f (c.requires.0.word c.args.k c.requires.1)

pub returns : goal.returns
unfolding field
returns c =
    let z = get_or c.args.rows.now (8 * c.args.k + 1) (pos 0) in
    let f : SFits w32 z = search rules in
    let e = ap nat_abs (to_z-of_z f) ∙ sym (up_to_in (pos word_limit) z (c.requires.0.word c.args.k c.requires.1)) in
    (e, rw e (up_to_le word_limit z))
