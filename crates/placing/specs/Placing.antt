-- The placing rule of document 01, in room without an upper end: BASE and CHECK are functions from slots to numbers, and `top` is one more than the
-- highest slot used. An array of N slots is their first N, where `top` is at most N. Assumes nothing.
use Rattle.std.specs.Prelude.{Bool, true, false, cond, ◌&&◌, ◌||◌, List, [], ◌∷◌, ℕ, zero, suc, max, eqb, leb, length, ℤ, pos, negsuc}
use Rattle.integer.specs.Integer.{eq_z}
use Rattle.backoff.specs.Words.{same_words}
use Rattle.child_slots.specs.Children.{free_check, child_slot}
use Rattle.double_array.specs.DoubleArray.{head_check}
use Rattle.placing.specs.Trie.{Node, children}

abbrev pub Room : Type 0
Room = ℕ → ℤ

unfoldable pub is_free : ℤ → Bool
is_free c = eq_z c free_check

-- slot i of the room becomes v
unfoldable pub update : Room → ℕ → ℤ → Room
update f i v t = cond (eqb t i) v (f t)

-- "the children's slots d − w (all ≥ 1)": a slot that a child may take
unfoldable pub is_open : Room → ℕ → Bool
is_open c t = leb 1 t && is_free (c t)

-- all children's slots on one side of d, behind it or ahead
unfoldable pub all_open : Room → Bool → ℕ → List ℕ → Bool
all_open c behind d [] = true
all_open c behind d (w ∷ ws) = is_open c (child_slot behind d w) && all_open c behind d ws

-- "d and all its children's slots are free", where "all children of a node lie on one side"
unfoldable pub fits : Room → List ℕ → ℕ → Bool
fits c ws d = is_free (c d) && (all_open c true d ws || all_open c false d ws)

-- the first number from d on that passes the test, within so many tries; the last argument says whether d does
unfoldable pub search : (ℕ → Bool) → ℕ → ℕ → Bool → ℕ
search test zero d here = d
search test (suc more) d true = d
search test (suc more) d false = search test more (suc d) (test (suc d))

-- "the smallest d that fits is taken as before": d ≥ 1, and "slots ≥ N counting as free here"; from slot `top` on all are free, so that `top` tries are enough
unfoldable pub first_fit : Room → List ℕ → ℕ → ℕ
first_fit c ws top = search (fits c ws) top 1 (fits c ws 1)

-- CHECK once the children's slots belong to the node in slot s
unfoldable pub own : Bool → ℕ → ℕ → List ℕ → Room → Room
own behind d s [] c = c
own behind d s (w ∷ ws) c = own behind d s ws (update c (child_slot behind d w) (pos s))

-- one more than the highest slot used
unfoldable pub top_with : ℕ → Bool → ℕ → List ℕ → ℕ
top_with top behind d [] = max top (suc d)
top_with top behind d (w ∷ ws) = max (suc (child_slot behind d w)) (top_with top behind d ws)

-- the slots of nodes, once the children of the node `us` lie behind d or ahead of it
unfoldable pub give : List ℕ → Bool → ℕ → (List ℕ → ℕ) → List ℕ → ℕ
give us behind d slot [] = slot []
give us behind d slot (w ∷ ws) = cond (same_words ws us) (child_slot behind d w) (slot (w ∷ ws))

pub record Placed : Type 0 where
  pub base : Room
  pub check : Room
  pub slot : List ℕ → ℕ
  pub top : ℕ

-- "A node in slot s with BASE[s] = d has its marker in slot d, and its child for word w in slot d + w with CHECK = s", or in slot d − w
unfoldable pub settle : Node → List ℕ → Bool → ℕ → Placed → Placed
settle n ws behind d P =
    record {
      base = update (update P.base d n.load) (P.slot n.words) (pos d);
      check = update (own behind d (P.slot n.words) ws P.check) d (negsuc n.cost);
      slot = give n.words behind d P.slot;
      top = top_with P.top behind d ws;
    }

-- "at each d the children's slots d − w (all ≥ 1) are tried first, then d + w"
unfoldable pub place_at : Node → List ℕ → ℕ → Placed → Placed
place_at n ws d P = settle n ws (all_open P.check true d ws) d P

-- "Each node takes the smallest d ≥ 1 for which d and all its children's slots are free."
unfoldable pub with_marker : Node → List ℕ → Placed → Placed
with_marker n ws P = place_at n ws (first_fit P.check ws P.top) P

-- "They give up their marker: the node's own BASE holds p − 1, its CHECK still the parent."
unfoldable pub without_marker : Node → Placed → Placed
without_marker n P = record { base = update P.base (P.slot n.words) (negsuc n.cost); check = P.check; slot = P.slot; top = P.top }

-- "Rows of n words .. give up their marker", and "All other nodes keep theirs, the root included."
unfoldable pub place : ℕ → Node → List ℕ → Placed → Placed
place order n ws P = cond (eqb (length n.words) order) (without_marker n P) (with_marker n ws P)

-- "Nodes are placed in the order root, row 1, row 2 and so on."
unfoldable pub place_all : ℕ → List Node → List Node → Placed → Placed
place_all order all [] P = P
place_all order all (n ∷ ns) P = place_all order all ns (place order n (children all n.words) P)

-- the root lies in slot 0, and CHECK[0] tells the order
unfoldable pub unplaced : ℕ → Placed
unplaced order = record { base = λ t. pos 0; check = update (λ t. free_check) 0 (head_check order); slot = λ us. 0; top = 1 }

-- the whole array for an order and the nodes, the root first
unfoldable pub placing : ℕ → List Node → Placed
placing order nodes = place_all order nodes nodes (unplaced order)

-- the first N slots of a room
unfoldable pub slots : ℕ → Room → List ℤ
slots zero f = []
slots (suc n) f = f 0 ∷ slots n (λ t. f (suc t))

-- one more than the last slot of a CHECK slice that is not free; 0 where all are free
unfoldable pub used_slots : List ℤ → ℕ
used_slots [] = 0
used_slots (c ∷ check) = cond (is_free c && eqb (used_slots check) 0) 0 (suc (used_slots check))

-- how many slots of a CHECK slice are not free
unfoldable pub taken_slots : List ℤ → ℕ
taken_slots [] = 0
taken_slots (c ∷ check) = cond (is_free c) (taken_slots check) (suc (taken_slots check))
