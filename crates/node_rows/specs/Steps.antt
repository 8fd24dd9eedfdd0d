-- What the steps of writing the rows leave. Only contracts of inner functions cite these. Assumes nothing.
use Rattle.std.specs.Prelude.{◌≡◌, ℕ, suc, ◌<◌, length, get_or, ℤ, pos}
use Rattle.std.specs.declared.result.Result.{Result}
use Rattle.std.specs.declared.result.Result.TheVariants.{Ok, Err}
use mathlib.Core.List.{List, Memᴰ}
use Rattle.backoff.specs.Limits.{order_limit}
use Rattle.backoff.specs.declared.Reason.{Reason}
use Rattle.backoff.specs.declared.Reason.TheVariants.{BrokenNode}
use Rattle.markers.specs.Markers.{Broken}
use Rattle.array_nodes.specs.Gathering.{node_at, nodes_at}
use Rattle.node_rows.specs.Rows.{reached_marker, row_of, table_of}

module _ (base check : List ℤ) where
  -- the places of a row's words have the words of the node in slot t, r of them, 0 past the last
  pub record WordsWritten (t : ℕ) (row : List ℤ) (r : ℕ) : Type 0 where
    pub count : r ≡ length (node_at base check t).words
    pub places : (q : ℕ) → q < order_limit → get_or row (suc q) (pos 0) ≡ pos (get_or (node_at base check t).words q 0)

  -- the row of the node in slot t; what is refused is 12, where its marker is broken
  abbrev pub RowWritten : ℕ → List ℤ → Result Unit Reason → Type 0
  RowWritten t row (Ok _) = row ≡ row_of base check (node_at base check t)
  RowWritten t row (Err reason) = (reason ≡ BrokenNode) × (reached_marker base check (node_at base check t) ≡ Broken)

  -- the rows of the nodes in these slots; what is refused is 12, where a marker is broken
  abbrev pub RowsWritten : List ℕ → List ℤ → Result Unit Reason → Type 0
  RowsWritten slots table (Ok _) = table ≡ table_of base check (nodes_at base check slots)
  RowsWritten slots table (Err reason) = (reason ≡ BrokenNode) × ((s : ℕ) × Memᴰ s slots × (reached_marker base check (node_at base check s) ≡ Broken))
