-- Laws of what a node writes in the room: one slot, the children's slots, and how far it reaches. Assumes nothing.
use mathlib.Core.Path.{◌≡◌, refl, ap, ◌∙◌}
use mathlib.Core.Logic.{◌≢◌}
use mathlib.Core.Bool.{Bool}
use mathlib.Core.List.Memᴰ
use mathlib.Core.List.{List, [], ◌∷◌, Memᴰ}
use Prim.Native.Nat.{ℕ, suc, ◌≤◌, ◌<◌}
use native.Mathlib.Omega.{arith}
use native.Mathlib.Decide.{ℕ_discrete, dec_lt}
use borrow.Author.Tests.{eq-eqb, ne_eqb}
use lib.IntN.{ℤ, pos}
use Rattle.child_slots.specs.Children.{child_slot}
use Rattle.placing.specs.Placing.{Room, update, own, top_with}

module _ (f : Room) (i : ℕ) (v : ℤ) where
  pub update_same : (t : ℕ) → t ≡ i → update f i v t ≡ v
  unfolding update
  update_same t e = rw (eq-eqb t i e)

  pub update_other : (t : ℕ) → t ≢ i → update f i v t ≡ f t
  unfolding update
  update_other t h = rw (ne_eqb t i h)

-- what CHECK holds in slot t once the children ws belong to the node in slot s: as before, and t is no child's, or s, and t is a child's
pub data Owned (behind : Bool) (d s : ℕ) (ws : List ℕ) (t : ℕ) (old new : ℤ) : Type 0 where
  kept : new ≡ old → ((w : ℕ) → Memᴰ w ws → t ≢ child_slot behind d w) → Owned behind d s ws t old new
  given : (w : ℕ) → Memᴰ w ws → t ≡ child_slot behind d w → new ≡ pos s → Owned behind d s ws t old new

pub own_cases : (behind : Bool) (d s : ℕ) (ws : List ℕ) (c : Room) (t : ℕ) → Owned behind d s ws t (c t) (own behind d s ws c t)
unfolding own
own_cases behind d s [] c t = kept refl (λ w h. absurd (Memᴰ.not-nil h))
own_cases behind d s (x ∷ ws) c t = go (ℕ_discrete t (child_slot behind d x)) (own_cases behind d s ws (update c (child_slot behind d x) (pos s)) t)
  where
    c' : Room
    c' = update c (child_slot behind d x) (pos s)

    no-child : t ≢ child_slot behind d x → ((w : ℕ) → Memᴰ w ws → t ≢ child_slot behind d w) → (w : ℕ) → Memᴰ w (x ∷ ws) → t ≢ child_slot behind d w
    no-child ne h w (Memᴰ.head e) = λ q. ne (q ∙ ap (child_slot behind d) e)
    no-child ne h w (Memᴰ.tail m) = h w m

    go : Dec (t ≡ child_slot behind d x) → Owned behind d s ws t (c' t) (own behind d s ws c' t) → Owned behind d s (x ∷ ws) t (c t) (own behind d s ws c' t)
    go (yes e) (kept q h) = given x (Memᴰ.head refl) e (q ∙ update_same c (child_slot behind d x) (pos s) t e)
    go (no e) (kept q h) = kept (q ∙ update_other c (child_slot behind d x) (pos s) t e) (no-child e h)
    go (yes e) (given w m p q) = given w (Memᴰ.tail m) p q
    go (no e) (given w m p q) = given w (Memᴰ.tail m) p q

pub reach-top : (top : ℕ) (behind : Bool) (d : ℕ) (ws : List ℕ) → (top ≤ top_with top behind d ws) × (d < top_with top behind d ws)
unfolding top_with
reach-top top behind d [] = omega arith
reach-top top behind d (w ∷ ws) = let h = reach-top top behind d ws in omega arith

pub reach-child : (top : ℕ) (behind : Bool) (d : ℕ) (ws : List ℕ) (w : ℕ) → Memᴰ w ws → child_slot behind d w < top_with top behind d ws
unfolding top_with
reach-child top behind d [] w x' = elim x' [ ]
reach-child top behind d (x ∷ ws) w (Memᴰ.head e) = omega (arith, ap (child_slot behind d) e)
reach-child top behind d (x ∷ ws) w (Memᴰ.tail m) = omega (arith, reach-child top behind d ws w m)

-- the highest slot used is the highest of before, the marker's or a child's
pub data Highest (top : ℕ) (behind : Bool) (d : ℕ) (ws : List ℕ) (t : ℕ) : Type 0 where
  of_before : top ≡ suc t → Highest top behind d ws t
  of_marker : t ≡ d → Highest top behind d ws t
  of_child : (w : ℕ) → Memᴰ w ws → t ≡ child_slot behind d w → Highest top behind d ws t

pub reach_highest : (top : ℕ) (behind : Bool) (d : ℕ) (ws : List ℕ) (t : ℕ) → top_with top behind d ws ≡ suc t → Highest top behind d ws t
unfolding top_with
reach_highest top behind d [] t e = go (dec_lt d top)
  where
    go : Dec (d < top) → Highest top behind d [] t
    go (yes l) = of_before (omega arith)
    go (no l) = of_marker (omega arith)
reach_highest top behind d (w ∷ ws) t e = go (dec_lt (child_slot behind d w) (top_with top behind d ws)) (reach_highest top behind d ws t)
  where
    more : Highest top behind d ws t → Highest top behind d (w ∷ ws) t
    more (of_before q) = of_before q
    more (of_marker q) = of_marker q
    more (of_child v m q) = of_child v (Memᴰ.tail m) q

    go : Dec (child_slot behind d w < top_with top behind d ws) → (top_with top behind d ws ≡ suc t → Highest top behind d ws t) → Highest top behind d (w ∷ ws) t
    go (yes l) rest = more (rest (omega arith))
    go (no l) rest = of_child w (Memᴰ.head refl) (omega arith)
