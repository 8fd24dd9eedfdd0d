-- Whether the nodes of any double array are a list. Assumes nothing.
use Rattle.std.specs.Prelude.{Bool, true, false, ◌&&◌, List, [], ◌∷◌, ℕ, eqb, get_or, ℤ, pos, nat_abs}
use Rattle.std.specs.Bool.{beq}
use Rattle.backoff.specs.Refusal.{number_of}
use Rattle.rows.specs.Table.{rows_of, order_of}
use Rattle.list.specs.Check.{verdict}
use Rattle.list.specs.ListModel.{extended_in, continued_in}
use Rattle.markers.specs.Markers.{Marker}
use Rattle.markers.specs.Markers.{Sound, Broken}
use Rattle.double_array.specs.DoubleArray.{order_in}
use Rattle.array_nodes.specs.Nodes.{Reached}
use Rattle.node_rows.specs.Rows.{reached_marker, table_of}

-- the marker is sound, and its e and f are these
abbrev pub is_right : Marker → Bool → Bool → Bool
is_right (Sound p b x y) e f = beq x e && beq y f
is_right Broken e f = false

module _ (base check : List ℤ) where
  -- every marker is sound, e is 1 if "some listed row puts a further word in front of it", and "f is 1 if some row is this row followed by one more word, else 0"
  unfoldable pub all_right : List ℤ → List Reached → Bool
  all_right t [] = true
  all_right t (r ∷ rs) = is_right (reached_marker base check r) (extended_in t r.words) (continued_in t r.words) && all_right t rs

-- BASE[1] is the number of rows
unfoldable pub rows_in : List ℤ → ℕ
rows_in base = nat_abs (get_or base 1 (pos 0))

-- what 12 leaves: every node reached has a sound marker with the right e and f, and their rows are "an accepted list of order n and BASE[1] rows"
unfoldable pub is_list : List ℤ → List ℤ → List Reached → Bool
is_list base check rs =
    all_right base check (table_of base check rs) rs
    && (eqb (number_of (verdict (table_of base check rs))) 0
    && (eqb (order_of (table_of base check rs)) (order_in check) && eqb (rows_of (table_of base check rs)) (rows_in base)))
