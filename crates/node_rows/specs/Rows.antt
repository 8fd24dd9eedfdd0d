-- The rows that the nodes of any double array are. Assumes nothing.
use Rattle.std.specs.Prelude.{List, [], ◌∷◌, ◌++◌, length, ℤ, pos}
use Rattle.rows.specs.Table.{row}
use Rattle.markers.specs.Markers.{Marker}
use Rattle.markers.specs.Markers.{Sound, Broken}
use Rattle.double_array.specs.DoubleArray.{marker_at}
use Rattle.array_nodes.specs.Nodes.{Reached}

-- p and b of a marker, 0 where it is not sound
abbrev pub marker_p : Marker → ℤ
marker_p (Sound p b e f) = p
marker_p Broken = pos 0

abbrev pub marker_b : Marker → ℤ
marker_b (Sound p b e f) = b
marker_b Broken = pos 0

module _ (base check : List ℤ) where
  -- what a node says, by the number of words that lead to it
  abbrev pub reached_marker : Reached → Marker
  reached_marker r = marker_at base check (length r.words) r.slot

  unfoldable pub row_of : Reached → List ℤ
  row_of r = row r.words (marker_p (reached_marker r)) (marker_b (reached_marker r))

  unfoldable pub table_of : List Reached → List ℤ
  table_of [] = []
  table_of (r ∷ rs) = row_of r ++ table_of rs
