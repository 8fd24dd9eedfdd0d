-- The places passed fit, so all fit if the rest do.
use Rattle.std.proofs.Common.{◌≡◌, ◌+◌, ◌-◌}
use Rattle.backoff.specs.Limits.{order_limit}
use Rattle.rows.specs.Table.{places_fit}
use Rattle.row_fields.proofs.places_fit.Given as goal

abbrev pub invariant-loop-j : goal.invariant-loop-j
invariant-loop-j l = places_fit l.table l.i 1 order_limit ≡ places_fit l.table l.i l.j (order_limit + 1 - l.j)
