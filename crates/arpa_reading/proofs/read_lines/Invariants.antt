-- The lines that begin before `at` are read. Assumes nothing.
use Rattle.std.proofs.Common.{◌-◌, length}
use Rattle.arpa_reading.proofs.LinesRead.{Reached}
use Rattle.arpa_reading.proofs.read_lines.Given as goal

abbrev pub invariant-loop-progress : goal.invariant-loop-progress
invariant-loop-progress l = Reached (length l.initial.table) (length l.initial.store) l.text l.table l.store l.progress l.place l.at

abbrev pub decreases-loop-progress : goal.decreases-loop-progress
decreases-loop-progress l = length l.text - l.at
