-- The part of the table is the row's words without the last.
use Rattle.std.proofs.Common.{◌≡◌, ◌+◌, ◌*◌, ◌-◌, take, drop, arith}
use Rattle.std.proofs.Math.ListN.{length-take}
use Rattle.rows.specs.Table.{length_of, words_of, without_last}
use Rattle.rows.proofs.Good.{part_good, are_words-without_last}
use Rattle.rows_before.proofs.find_without_last.Goals as goal
use Rattle.rows_before.proofs.find_without_last.Goals.{Start}

part : (s : Start) → words_of (take (8 * s.args.i + s.args.m - (8 * s.args.i + 1)) (drop (8 * s.args.i + 1) s.args.table.now)) ≡ without_last s.args.table.now s.args.i
unfolding without_last
part s =
    let m = s.requires.3 in
    let some = s.requires.2.some in
    let e : 8 * s.args.i + s.args.m - (8 * s.args.i + 1) ≡ length_of s.args.table.now s.args.i - 1 = omega arith in
    rw e

pub find_of_length-requires : goal.find_of_length-requires
find_of_length-requires c =
    (part_good _ _ (omega arith) c.requires.1, rw length-take (omega arith), rw (part c.before) (are_words-without_last _ _ c.requires.2 c.requires.0))

pub returns : goal.returns
returns c = rw (part c.before.before) at c.find_of_length.ensures
