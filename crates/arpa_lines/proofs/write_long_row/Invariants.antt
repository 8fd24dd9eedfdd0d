-- The first j words are written. Assumes nothing.
use Rattle.arpa_lines.proofs.Tables.{Writing}
use Rattle.arpa_lines.proofs.write_long_row.Given as goal

abbrev pub invariant-loop-j : goal.invariant-loop-j
invariant-loop-j l = Writing l.initial.table l.i l.word-items l.table l.j
