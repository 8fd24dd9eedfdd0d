-- The rows of a node's children, passed one by one: their first words, whether their slots are free, how far they reach, and the stores of their slots.
-- Assumes nothing.
use mathlib.Core.Path.{◌≡◌, refl, sym, ap, ◌∙◌, subst}
use mathlib.Core.Bool.{Bool, true, false, ◌&&◌, false≢true}
use mathlib.Core.List.{List, [], ◌∷◌, Memᴰ}
use Prim.Native.Nat.{ℕ, zero, suc, ◌+◌, ◌-◌, ◌≤◌, ◌<◌, max}
use native.Mathlib.Numerals.{add-one}
use native.Mathlib.Omega.{arith}
use lib.IntN.{ℤ, pos}
use lib.ListN.{length, get_or}
use borrow.Author.Tests.{le-leb}
use Rattle.rows.specs.Table.{rows_of, field, word_of}
use Rattle.child_slots.specs.Children.{child_slot}
use Rattle.child_slots.proofs.Children.{slots_apart, marker_apart}
use Rattle.placing.specs.Placing.{Room, is_free, is_open, all_open, update, own, top_with}
use Rattle.placing.proofs.FirstFit.{is_free-yes, open_told, all_open-at}
use Rattle.placing.proofs.Rooms.{update_other}
use Rattle.free_slots.specs.Chain.{Linked, Takes}
use Rattle.free_slots.proofs.Chain.{update-kept}
use Rattle.first_fit.specs.Steps.{oldest_from, oldest_of, Rising, ChildSlots, Settles, Fitting}

-- ---- how far the children reach

-- from a top, and from 0
pub reach-max : (top : ℕ) (behind : Bool) (d : ℕ) (ws : List ℕ) → top_with top behind d ws ≡ max top (top_with 0 behind d ws)
unfolding top_with
reach-max top behind d [] = omega arith
reach-max top behind d (w ∷ ws) = omega (arith, reach-max top behind d ws)

-- those behind d reach no further than d,
pub reach-behind : (top d : ℕ) (ws : List ℕ) → top_with top true d ws ≡ max top (suc d)
unfolding top_with
reach-behind top d [] = refl
reach-behind top d (w ∷ ws) = omega (arith, reach-behind top d ws)

-- those ahead as far as the last, whose word is the largest,
reach-last : (t : List ℤ) (i n top d : ℕ) → ((j : ℕ) → i ≤ j → j < i + n → word_of (field t j 1) < word_of (field t (i + n) 1))
    → top_with top false d (oldest_from t i (suc n)) ≡ max top (suc (d + word_of (field t (i + n) 1)))
unfolding top_with oldest_from
reach-last t i zero top d h = let e : i + 0 ≡ i = omega arith in rw e (omega arith)
reach-last t i (suc n) top d h =
    let e : i + suc n ≡ suc i + n = omega arith in
    omega (arith, h i (omega arith) (omega arith), ap (λ (x : ℕ). word_of (field t x 1)) e, reach-last t (suc i) n top d (λ j a b. rw e at (h j (omega arith) (omega arith))))

pub reach-ahead : (rows : List ℤ) (n top d : ℕ) → Rising rows → rows_of rows ≡ suc n → top_with top false d (oldest_of rows) ≡ max top (suc (d + word_of (field rows n 1)))
reach-ahead rows n top d A e = let z : 0 + n ≡ n = omega arith in rw e (rw z at (reach-last rows 0 n top d (λ j a b. A.rising j (0 + n) b (omega arith))))

-- and without children d is the last slot
pub reach-none : (rows : List ℤ) (top d : ℕ) → rows_of rows ≡ 0 → top_with top false d (oldest_of rows) ≡ max top (suc (d + 0))
unfolding top_with oldest_from
reach-none rows top d e = rw e (omega arith)

-- ---- rows i to n − 1 are left

module _ (t : List ℤ) (i n : ℕ) where
  abbrev word : ℕ
  word = word_of (field t i 1)

  abbrev left : List ℕ
  left = oldest_from t i (n - i)

  abbrev rest : List ℕ
  rest = oldest_from t (i + 1) (n - (i + 1))

  oldest_step : i < n → left ≡ word ∷ rest
  unfolding oldest_from
  oldest_step l = let e : n - i ≡ suc (n - (i + 1)) = omega arith in rw (e, add-one i)

  oldest_end : n ≤ i → left ≡ []
  unfolding oldest_from
  oldest_end l = let e : n - i ≡ 0 = omega arith in rw e

  -- whether the slots of the children left are open
  module _ (c : Room) (behind : Bool) (d : ℕ) where
    pub open_step : i < n → is_open c (child_slot behind d word) ≡ true → all_open c behind d left ≡ all_open c behind d rest
    unfolding all_open
    open_step l e = rw (oldest_step l, e)

    pub open_fails : i < n → is_open c (child_slot behind d word) ≡ false → all_open c behind d left ≡ false
    unfolding all_open
    open_fails l e = rw (oldest_step l, e)

    pub open_end : n ≤ i → all_open c behind d left ≡ true
    unfolding all_open
    open_end l = rw (oldest_end l)

  module _ (behind : Bool) (d : ℕ) where
    reach_step : i < n → top_with 0 behind d left ≡ max (suc (child_slot behind d word)) (top_with 0 behind d rest)
    unfolding top_with
    reach_step l = rw (oldest_step l)

    -- a child that is left lies within what those left reach
    reach-first : (N : ℕ) → i < n → top_with 0 behind d left ≤ N → (child_slot behind d word < N) × (top_with 0 behind d rest ≤ N)
    reach-first N l h = omega (arith, reach_step l)

    own-step : (s : ℕ) (c : Room) → i < n → own behind d s left c ≡ own behind d s rest (update c (child_slot behind d word) (pos s))
    unfolding own
    own-step s c l = rw (oldest_step l)

    own-end : (s : ℕ) (c : Room) → n ≤ i → own behind d s left c ≡ c
    unfolding own
    own-end s c l = rw (oldest_end l)

-- a slot is open where it is free
pub open_is : (c : Room) (t : ℕ) → 1 ≤ t → is_free (c t) ≡ is_open c t
unfolding is_open
open_is c t l = rw (le-leb 1 t l)

-- where the slot of the first is not open
pub first_fails : (c : Room) (behind : Bool) (d w : ℕ) (ws : List ℕ) → is_open c (child_slot behind d w) ≡ false → all_open c behind d (w ∷ ws) ≡ false
unfolding all_open
first_fails c behind d w ws e = rw e

-- the word of row i + j is among them
oldest_member : (t : List ℤ) (i k j : ℕ) → j < k → Memᴰ (word_of (field t (i + j) 1)) (oldest_from t i k)
unfolding oldest_from
oldest_member t i zero j l = absurd (omega arith)
oldest_member t i (suc k) zero l = let e : i + 0 ≡ i = omega arith in rw e (Memᴰ.head refl)
oldest_member t i (suc k) (suc j) l =
    let e : i + suc j ≡ suc i + j = omega arith in
    rw e (Memᴰ.tail (oldest_member t (suc i) k j (omega arith)))

pub oldest_in : (rows : List ℤ) (k : ℕ) → k < rows_of rows → Memᴰ (word_of (field rows k 1)) (oldest_of rows)
oldest_in rows k l = let e : 0 + k ≡ k = omega arith in rw e at (oldest_member rows 0 (rows_of rows) k l)

-- where all slots on a side are open, each child's is
module _ (c : Room) (behind : Bool) (d : ℕ) (rows : List ℤ) (e : all_open c behind d (oldest_of rows) ≡ true) (k : ℕ) (l : k < rows_of rows) where
  abbrev slot : ℕ
  slot = child_slot behind d (word_of (field rows k 1))

  open_slot : is_open c slot ≡ true
  open_slot = all_open-at c behind d (oldest_of rows) e (word_of (field rows k 1)) (oldest_in rows k l)

  open_positive : 1 ≤ slot
  open_positive = (open_told c slot open_slot).0

  open_free : is_free (c slot) ≡ true
  open_free = is_free-yes (c slot) (open_told c slot open_slot).1

-- each child's slot may be tested before all of them
pub child-first : (rows : List ℤ) (k : ℕ) → k < rows_of rows → (c : Room) (behind : Bool) (d : ℕ) → all_open c behind d (oldest_of rows) ≡ all_open c behind d (word_of (field rows k 1) ∷ oldest_of rows)
unfolding all_open
child-first rows k l c behind d = go (all_open c behind d (oldest_of rows)) refl
  where
    t : ℕ
    t = child_slot behind d (word_of (field rows k 1))

    go : (x : Bool) → all_open c behind d (oldest_of rows) ≡ x → all_open c behind d (oldest_of rows) ≡ (is_open c t && all_open c behind d (oldest_of rows))
    go true e = rw (open_slot c behind d rows e k l)
    go false e = rw e (elim (is_open c t) as (λ b. false ≡ (b && false)) [ true ↦ refl | false ↦ refl ])

-- and so may d, where it is open: the slot of word 0
pub d_first : (rows : List ℤ) (c : Room) (behind : Bool) (d : ℕ) → is_open c d ≡ true → all_open c behind d (oldest_of rows) ≡ all_open c behind d (0 ∷ oldest_of rows)
unfolding all_open
d_first rows c true d h = let e : child_slot true d 0 ≡ d = omega arith in rw (e, h)
d_first rows c false d h = let e : child_slot false d 0 ≡ d = omega arith in rw (e, h)

pub slots_open : (c : Room) (behind : Bool) (d : ℕ) (rows : List ℤ) → all_open c behind d (oldest_of rows) ≡ true → ChildSlots behind d rows
slots_open c true d rows e = record { room = λ q k l. omega (arith, open_positive c true d rows e k l) }
slots_open c false d rows e = record { room = λ q. absurd (false≢true q) }

-- ---- the loops that write what a node gives its children

-- the slices while the children's slots are taken: those left lead to the same room
pub record Owning (N : ℕ) (b c₀ : Room) (rows : List ℤ) (behind : Bool) (d s : ℕ) (base check : List ℤ) (i : ℕ) : Type 0 where
  pub c : Room
  pub linked : Linked N b c base check
  pub room : top_with 0 behind d (oldest_from rows i (rows_of rows - i)) ≤ N
  pub stores : own behind d s (oldest_from rows i (rows_of rows - i)) c ≡ own behind d s (oldest_of rows) c₀
  pub positive : (k : ℕ) → k < rows_of rows → 1 ≤ child_slot behind d (word_of (field rows k 1))
  pub left : (k : ℕ) → i ≤ k → k < rows_of rows → is_free (c (child_slot behind d (word_of (field rows k 1)))) ≡ true
  pub d_positive : 1 ≤ d
  pub d_free : is_free (c d) ≡ true
  pub taken : is_free (c s) ≡ false

module _ {N : ℕ} {b c₀ : Room} {rows : List ℤ} {behind : Bool} {d s : ℕ} where
  pub owning_none : {base check : List ℤ} {mark : ℤ} → Settles N b c₀ base check rows s mark → Fitting N c₀ rows behind d → Owning N b c₀ rows behind d s base check 0
  owning_none S F =
      let e : rows_of rows - 0 ≡ rows_of rows = omega arith in
      record {
        c = c₀;
        linked = S.linked;
        room = rw e F.within;
        stores = rw e;
        positive = λ k h. open_positive c₀ behind d rows F.opened k h;
        left = λ k l h. open_free c₀ behind d rows F.opened k h;
        d_positive = F.positive;
        d_free = F.free;
        taken = S.taken;
      }

  module _ {base check : List ℤ} {i : ℕ} (o : Owning N b c₀ rows behind d s base check i) (l : i < rows_of rows) where
    abbrev t : ℕ
    t = child_slot behind d (word_of (field rows i 1))

    owning_inside : t < N
    owning_inside = (reach-first rows i (rows_of rows) behind d N l o.room).0

    pub owning_takes : Takes base check t (pos s)
    owning_takes = record {
      N = N;
      b = b;
      c = o.c;
      linked = o.linked;
      positive = o.positive i l;
      inside = owning_inside;
      free = o.left i (omega arith) l;
      apart = refl;
    }

    pub owning_next : {base' check' : List ℤ} → Rising rows
        → (Linked N b o.c base check → is_free (o.c t) ≡ true → Linked N (update b t (pos 0)) (update o.c t (pos s)) base' check')
        → Owning N b c₀ rows behind d s base' check' (i + 1)
    owning_next {base'} {check'} A took = record {
      c = update o.c t (pos s);
      linked = subst (λ (b' : Room). Linked N b' (update o.c t (pos s)) base' check') (update-kept b t (pos 0) (o.linked.blank t free)) (took o.linked free);
      room = (reach-first rows i (rows_of rows) behind d N l o.room).1;
      stores = sym (own-step rows i (rows_of rows) behind d s o.c l) ∙ o.stores;
      positive = o.positive;
      left = λ k m h.
          ap is_free (update_other o.c t (pos s) (child_slot behind d (word_of (field rows k 1)))
          (λ e. absurd (omega (arith, A.rising i k (omega arith) h, (slots_apart behind behind d (word_of (field rows k 1)) (word_of (field rows i 1)) (A.positive k h) (A.positive i l) (o.positive k h) (o.positive i l) e).1))))
          ∙ o.left k (omega arith) h;
      d_positive = o.d_positive;
      d_free = ap is_free (update_other o.c t (pos s) d (marker_apart behind d (word_of (field rows i 1)) o.d_positive (A.positive i l))) ∙ o.d_free;
      taken = ap is_free (update_other o.c t (pos s) s (λ e. false≢true (sym o.taken ∙ ap (λ (x : ℕ). is_free (o.c x)) e ∙ free))) ∙ o.taken;
    }
      where
        free : is_free (o.c t) ≡ true
        free = o.left i (omega arith) l

  pub owning_end : {base check : List ℤ} {i : ℕ} → (o : Owning N b c₀ rows behind d s base check i) → rows_of rows ≤ i → o.c ≡ own behind d s (oldest_of rows) c₀
  owning_end {i = i} o l = sym (own-end rows i (rows_of rows) behind d s o.c l) ∙ o.stores

-- the work items while the children's slots are given
pub record Giving (behind : Bool) (d : ℕ) (rows : List ℤ) (items₀ items : List ℕ) (i : ℕ) : Type 0 where
  pub same_length : length items ≡ length items₀
  pub item : (k : ℕ) → k < i → get_or items k 0 ≡ child_slot behind d (word_of (field rows k 1))
