use Rattle.std.proofs.Common.{sym}
use Rattle.backoff.specs.State.{empty}
use Rattle.double_array.specs.DoubleArray.{store_in}
use Rattle.markers.specs.Markers.{marker_in}
use Rattle.word_walk.proofs.Rows.{at_in_range}
use Rattle.word_walk.proofs.Ending.{walked_as}
use Rattle.word_walk.proofs.Alone.{alone_ends}
use Rattle.word_walk.proofs.walk_alone.Goals as goal

pub end_walk-requires-clause-in_range : goal.end_walk-requires-clause-in_range
end_walk-requires-clause-in_range c = rw c.read_marker.ensures (at_in_range c.args.array.base.now c.args.array.check.now 1 c.args.slot)

pub returns : goal.returns
returns c = λ v e.
    let base = c.args.array.base.now in
    let check = c.args.array.check.now in
    walked_as (store_in base check) empty v c.end_walk.ensures.walked c.end_walk.ensures.backoffs
    (alone_ends base check c.args.array.is_array v c.args.slot e c.args.backoffs.now c.requires.backoffs_len (marker_in c.read_marker.result) (sym c.read_marker.ensures))
