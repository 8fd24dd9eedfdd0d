-- BASE and CHECK of an array are as long.
use Rattle.double_array.proofs.DoubleArray.{opened-sizes}
use Rattle.double_array.proofs.Array.read_marker.Goals as goal

pub read_marker-requires-clause-base_len : goal.read_marker-requires-clause-base_len
read_marker-requires-clause-base_len c = (opened-sizes c.args.self.base.now c.args.self.check.now c.args.self.is_array).same
