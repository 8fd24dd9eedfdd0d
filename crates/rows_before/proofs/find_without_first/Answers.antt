-- The part of the table is the row's words without the first, or the last alone.
use Rattle.std.proofs.Common.{◌≡◌, ◌+◌, ◌*◌, ◌-◌, take, drop, arith}
use Rattle.std.proofs.Math.ListN.{length-take}
use Rattle.rows.specs.Table.{words_of}
use Rattle.rows.proofs.Good.{part_good}
use Rattle.rows_before.specs.Faults.{without_firsts}
use Rattle.rows_before.proofs.Faults.{are_words-asked, asked-words}
use Rattle.rows_before.proofs.find_without_first.Goals as goal
use Rattle.rows_before.proofs.find_without_first.Goals.{After-first_asked}

part : (c : After-first_asked) → words_of (take (8 * c.args.i + (c.args.m + 1) - (8 * c.args.i + c.first_asked.result)) (drop (8 * c.args.i + c.first_asked.result) c.args.table.now)) ≡ without_firsts c.args.filling c.args.table.now c.args.i
part c = rw (c.first_asked.ensures.place, c.requires.3) (asked-words _ _ c.requires.2 c.requires.0 c.args.filling)

pub find_near-requires : goal.find_near-requires
find_near-requires c =
    (part_good _ _ (omega arith) c.requires.1, rw length-take (omega arith), rw (part c.before) (are_words-asked _ _ c.requires.2 c.requires.0 _))

pub returns : goal.returns
returns c = rw (part c.before.before) at c.find_near.ensures
