-- BASE and CHECK of an array are as long.
use Rattle.double_array.proofs.DoubleArray.{opened-sizes}
use Rattle.double_array.proofs.Array.kept_marker.Goals as goal

pub kept_marker-requires-clause-base_len : goal.kept_marker-requires-clause-base_len
kept_marker-requires-clause-base_len c = (opened-sizes c.args.self.base.now c.args.self.check.now c.args.self.is_array).same
