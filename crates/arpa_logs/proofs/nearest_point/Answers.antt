-- `arpa_logs::nearest_point`: the points are few enough for 32 bits.
use Rattle.std.proofs.Common.{w32, arith}
use mir.Facts.{to_z_pos}
use Rattle.arpa_logs.specs.Logs.{nearest}
use Rattle.arpa_logs.proofs.nearest_point.Goals as goal

pub returns : goal.returns
unfolding nearest
returns c = to_z_pos w32 (omega arith)
