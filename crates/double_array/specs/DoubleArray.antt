-- The double array of document 01: two lists of numbers, BASE and CHECK, of which nothing is known. The nodes' markers, the walk, the head, and the array as
-- a store. Slots are natural numbers; words are newest first on a walk. Assumes nothing.
use Rattle.std.specs.declared.option.Option.{Option}
use Rattle.std.specs.declared.option.Option.TheVariants.{Some, None}
use Rattle.std.specs.Prelude.{Bool, cond, ◌&&◌, List, [], ◌∷◌, ℕ, suc, ◌+◌, ◌-◌, eqb, leb, length, get_or, ℤ, pos, negsuc, nat_abs}
use Rattle.std.specs.Int.Signed.{le_z, lt_z}
use Rattle.integer.specs.Integer.{eq_z, between}
use Rattle.backoff.specs.Limits.{order_limit, row_limit, slot_limit}
use Rattle.backoff.specs.Store.{Look, absent, broken, Store}
use Rattle.markers.specs.Markers.{marker_of, look_marker}
use Rattle.markers.specs.Markers.{Marker}
use Rattle.markers.specs.Markers.{Sound, Broken}
use Rattle.child_slots.specs.Children.{free_check, base_at, check_at, child_at}

-- "CHECK[0] becomes n + 24, and 11 meets any other head": the order, and what is added to it there
abbrev pub head_offset : ℕ
head_offset = 24

abbrev pub head_check : ℕ → ℤ
head_check n = pos (n + head_offset)

-- the order that CHECK[0] tells
unfoldable pub order_in : List ℤ → ℕ
order_in check = nat_abs (get_or check 0 free_check) - head_offset

module _ (base check : List ℤ) where
  -- The marker of the node in slot s, whose BASE is d: "A marker is sound if 1 ≤ d < N and the p and b read from it are in range."
  unfoldable pub kept_marker : ℕ → Marker
  kept_marker s = cond (le_z (pos 1) (base_at base check s) && lt_z (base_at base check s) (pos (length check))) (marker_of (check_at base check (nat_abs (base_at base check s))) (base_at base check (nat_abs (base_at base check s)))) Broken

  -- "the node's own BASE holds p − 1", and there is no b, e or f: what a marker says that has this CHECK and BASE 0
  unfoldable pub own_marker : ℕ → Marker
  own_marker s = marker_of (base_at base check s) (pos 0)

  -- What the node in slot s says, to which k words lead: "Rows of n words .. give up their marker", and "All other nodes keep theirs, the root included."
  unfoldable pub marker_at : ℕ → ℕ → Marker
  marker_at k s = cond (eqb k (order_in check)) (own_marker s) (kept_marker s)

-- the rest of a walk past a node, which needs a sound marker
abbrev pub past : Marker → Look → Look
past (Sound p b e f) rest = rest
past Broken rest = broken

abbrev pub down_to : Option ℕ → (ℕ → Look) → Look
down_to (Some t) rest = rest t
down_to None rest = absent

-- The walk from the node in slot s, to which k words have led: every node that it reaches needs a sound marker. A node of n words that has one has a negative
-- BASE, and so no child.
unfoldable pub look_from : List ℤ → List ℤ → ℕ → ℕ → List ℕ → Look
look_from base check k s [] = look_marker (marker_at base check k s)
look_from base check k s (w ∷ ws) = past (marker_at base check k s) (down_to (child_at base check s w) (λ (t : ℕ). look_from base check (suc k) t ws))

-- "BASE and CHECK differ in length, N out of range": what 2 and 11 leave of the lengths
unfoldable pub sizes_ok : List ℤ → List ℤ → Bool
sizes_ok base check = eqb (length base) (length check) && (leb 2 (length base) && leb (length base) slot_limit)

-- CHECK[0] "with n 1..5"
unfoldable pub order_ok : List ℤ → Bool
order_ok check = between (head_check 1) (head_check order_limit) (get_or check 0 free_check)

-- "BASE[0] is 1 .. CHECK[1] is −1 and BASE[1] is the number of rows", "with n 1..5 and 3..65,535 rows"
unfoldable pub head_ok : List ℤ → List ℤ → Bool
head_ok base check =
    eq_z (base_at base check 0) (pos 1)
    && (order_ok check
    && (eq_z (check_at base check 1) (negsuc 0) && between (pos 3) (pos row_limit) (base_at base check 1)))

-- what 11 asks of the two slices
abbrev pub is_array : List ℤ → List ℤ → Bool
is_array base check = sizes_ok base check && head_ok base check

-- what the array has for words, newest first: what the walk from the root comes to, but nothing for the empty sequence, as the root is no row
abbrev pub look_row : List ℤ → List ℤ → List ℕ → Look
look_row base check [] = absent
look_row base check (w ∷ ws) = look_from base check 0 0 (w ∷ ws)

-- the array as a store
unfoldable pub store_in : List ℤ → List ℤ → Store
store_in base check = record { order = order_in check; look = look_row base check }

-- the array that start, run, lookup and unload are lent: none where 11 refuses it
unfoldable pub opened : List ℤ → List ℤ → Option Store
opened base check = cond (is_array base check) (Some (store_in base check)) None
