-- Shorter rows come first. Assumes nothing.
use mathlib.Core.Path.{◌≡◌}
use mathlib.Core.List.{List}
use Prim.Native.Nat.{ℕ, ◌≤◌, ◌<◌}
use native.Mathlib.Omega.{arith}
use lib.IntN.{ℤ}
use Rattle.backoff.specs.Refusal.{Accepted}
use Rattle.rows.specs.Table.{rows_of, length_of}
use Rattle.rows.proofs.Good.{lengths-ascend}
use Rattle.list.specs.Check.{verdict}
use Rattle.list.proofs.Check.{accepted-good}
use Rattle.row_nodes.specs.ListTrie.{RowsBelow}

module _ (t : List ℤ) (a : verdict t ≡ Accepted) where
  -- k rows of fewer than m words, and no more
  pub rows-below : (m k : ℕ) → k ≤ rows_of t → ((j : ℕ) → j < k → length_of t j < m) → (k < rows_of t → m ≤ length_of t k) → RowsBelow t m k
  rows-below m k l f g = record {
    within = l;
    fewer = f;
    more = λ j p q. omega (arith, lengths-ascend t (accepted-good t a) k j p q, g (omega arith));
  }
