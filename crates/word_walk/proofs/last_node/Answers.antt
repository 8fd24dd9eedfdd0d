use Rattle.std.proofs.Common.{rules, ◌+◌}
use mir.Syntax.{w32}
use mir.Val.{SFits}
use mir.Facts.{to_z-of_z}
use Rattle.double_array.specs.DoubleArray.{store_in}
use Rattle.word_walk.proofs.Rows.{at_in_range}
use Rattle.word_walk.proofs.Ending.{walked_as}
use Rattle.word_walk.proofs.last_node.Goals as goal

pub read_marker-marker-requires : goal.read_marker-marker-requires
read_marker-marker-requires c = let r = rw c.in-Last.is at c.requires.count_bound.2 in r.0

pub end_walk-requires-clause-owed_bound : goal.end_walk-requires-clause-owed_bound
end_walk-requires-clause-owed_bound c =
    let r = rw c.in-Last.is at c.requires.count_bound.2 in
    let f : SFits w32 c.in-Last.owed = search rules in
    let g : SFits w32 c.in-Last.sum = search rules in
    rw (to_z-of_z f, to_z-of_z g) (r.1, r.2)

pub end_walk-requires-clause-in_range : goal.end_walk-requires-clause-in_range
end_walk-requires-clause-in_range c = rw c.read_marker-marker.ensures (at_in_range c.args.array.base.now c.args.array.check.now (c.args.count + 1) c.in-Last.slot)

pub returns-in-End : goal.returns-in-End
returns-in-End c = λ t v o. rw c.in-End.is at o

pub returns-in-Last : goal.returns-in-Last
returns-in-Last c = λ t v o.
    let f : SFits w32 c.in-Last.owed = search rules in
    let g : SFits w32 c.in-Last.sum = search rules in
    let r = rw c.in-Last.is at o in
    walked_as (store_in c.args.array.base.now c.args.array.check.now) t v
    (rw (to_z-of_z f, to_z-of_z g, c.read_marker-marker.ensures) at c.end_walk.ensures.walked)
    (rw c.read_marker-marker.ensures at c.end_walk.ensures.backoffs)
    r
