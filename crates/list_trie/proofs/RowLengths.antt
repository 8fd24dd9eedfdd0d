-- The rows past the shorter ones have n words. Assumes nothing.
use mathlib.Core.Path.{◌≡◌}
use mathlib.Core.List.{List}
use Prim.Native.Nat.{ℕ, ◌≤◌, ◌<◌}
use native.Mathlib.Omega.{arith}
use lib.IntN.{ℤ}
use Rattle.backoff.specs.Refusal.{Accepted}
use Rattle.rows.specs.Table.{rows_of, length_of, order_of}
use Rattle.list.specs.Check.{verdict}
use Rattle.list.proofs.ListModel.{length-order}
use Rattle.list.proofs.Check.{accepted-good, accepted-size}
use Rattle.row_nodes.specs.ListTrie.{RowsBelow}

module _ (t : List ℤ) (a : verdict t ≡ Accepted) where
  -- none has more than n
  pub longest-row : (k : ℕ) → RowsBelow t (order_of t) k → (i : ℕ) → k ≤ i → i < rows_of t → length_of t i ≡ order_of t
  longest-row k o i l h = omega (arith, o.more i l h, length-order t (accepted-good t a) (accepted-size t a).0 i h)
