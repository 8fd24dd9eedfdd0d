-- Each number is a word or the 0 past the last, so the cast keeps it.
use Rattle.std.proofs.Common.{◌≡◌, true, pos, get_or, arith}
use Rattle.std.proofs.lemmas.Int.{ints}
use Rattle.std.proofs.lemmas.Grind.{common_steps}
use Rattle.integer.specs.Integer.{between, up_to}
use Rattle.backoff.specs.Limits.{word_limit}
use Rattle.rows.proofs.Table.{word_range_or}
use Rattle.rows.proofs.word_at.Goals as goal

is-at : (c : goal.After-unwrap_or) → c.unwrap_or.result ≡ get_or c.args.words.now c.args.j (pos 0)
is-at c = grind (arith, common_steps)

in-range : (c : goal.After-unwrap_or) → between (pos 0) (pos word_limit) c.unwrap_or.result ≡ true
in-range c = rw (is-at c) (word_range_or c.args.words.now c.args.j c.requires)

pub overflow_cast-result : goal.overflow_cast-result
unfolding between
overflow_cast-result c = let h = in-range c in grind (arith, ints)

pub returns : goal.returns
unfolding between up_to
returns c = let h = in-range c in let e = is-at c in grind (arith, ints)
