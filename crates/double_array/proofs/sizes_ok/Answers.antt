-- The code's test of the length is the specification's.
use mathlib.Core.Path.{◌∙◌}
use lib.ListN.{length}
use Rattle.markers.proofs.Tests.{within_told}
use Rattle.double_array.specs.DoubleArray.{sizes_ok}
use Rattle.double_array.proofs.sizes_ok.Goals as goal

pub returns : goal.returns
unfolding sizes_ok
returns c =
    rw (c.contains.ensures.value ∙ within_told c.new.result _ _ (length c.args.base.now) c.new.ensures.start c.new.ensures.end c.new.ensures.exhausted)
