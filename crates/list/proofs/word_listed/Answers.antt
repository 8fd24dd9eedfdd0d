-- A list of one word is that word.
use Rattle.std.proofs.Common.{◌≡◌, to_z, of_z, w32, arith}
use Rattle.std.proofs.lemmas.Int.{to_z-of_z}
use Rattle.std.proofs.lemmas.Grind.{common_steps}
use Rattle.rows.specs.Table.{words_of}
use Rattle.list.proofs.word_listed.Goals as goal

pub find_row-requires : goal.find_row-requires
unfolding words_of
find_row-requires c = (c.requires.0, omega arith, rw (to_z-of_z w32 c.args.word c.ranges.word) c.requires.1)

pub returns : goal.returns
unfolding words_of
returns c =
    let e : to_z w32 (of_z w32 c.args.word) ≡ c.args.word = to_z-of_z w32 c.args.word c.ranges.word in
    let f = rw e at c.find_row.ensures in
    grind (arith, common_steps)
