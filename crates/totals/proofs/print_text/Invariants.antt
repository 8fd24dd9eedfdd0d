-- The line that has begun is in its buffer, and its number leaves room for all further lines.
use Rattle.std.proofs.Common.{◌*◌, ◌+◌, ◌≤◌}
use Rattle.totals_lines.specs.Steps.{Begun}
use Rattle.totals.proofs.print_text.Given as goal

abbrev pub invariant-loop-turn : goal.invariant-loop-turn
invariant-loop-turn g l = record { begun : Begun l.progress l.line; number : l.progress.number ≤ 1 + 1024 * l.turn }
