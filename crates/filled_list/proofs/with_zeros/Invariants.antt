-- With the zeros that are left, it is the key asked for.
use Rattle.std.proofs.Common.{◌≡◌, ◌-◌}
use Rattle.rows.specs.Keys.{key_of}
use Rattle.filled_list.specs.Next.{zeros}
use Rattle.filled_list.proofs.with_zeros.Given as goal

abbrev pub invariant-loop : goal.invariant-loop
invariant-loop l = zeros (l.j - l.counter) (key_of l.shifted.high l.shifted.low) ≡ zeros l.j (key_of l.fn.k.high l.fn.k.low)
