-- The place holds a word or 0, so the cast keeps it.
use Rattle.std.proofs.Common.{◌≡◌, true, pos, arith}
use Rattle.std.proofs.lemmas.Int.{ints}
use Rattle.integer.specs.Integer.{between, up_to}
use Rattle.backoff.specs.Limits.{word_limit}
use Rattle.rows.proofs.Good.{place_range}
use Rattle.rows.proofs.digit.Goals as goal
use Rattle.rows.proofs.digit.Goals.{After-field}

in-range : (c : After-field) → between (pos 0) (pos word_limit) c.field.result ≡ true
in-range c = rw c.field.ensures (place_range c.args.table.now c.args.i c.requires.1 c.args.j c.requires.2 c.requires.3)

pub overflow_cast-result : goal.overflow_cast-result
unfolding between
overflow_cast-result c = let h = in-range c in grind (arith, ints)

pub returns : goal.returns
unfolding between up_to
returns c = let h = in-range c in let e = c.field.ensures in grind (arith, ints)
