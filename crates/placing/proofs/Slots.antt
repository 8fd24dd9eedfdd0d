-- A room's first slots as a list, and what stores on the list are in the room. Assumes nothing.
use mathlib.Core.Path.{◌≡◌, refl, sym, ap, ap₂, ◌∙◌}
use mathlib.Core.Logic.{◌≢◌}
use mathlib.Core.Bool.{Bool, true, false, cond, ◌&&◌}
use mathlib.Core.List.{List, ◌∷◌, ◌++◌}
use Prim.Native.Nat.{ℕ, zero, suc, ◌-◌, ◌≤◌, ◌<◌}
use native.Mathlib.Omega.{arith}
use native.Mathlib.Decide.{ℕ_discrete}
use borrow.Author.Tests.{ne_eqb}
use lib.IntN.{ℤ, pos}
use lib.ListN.{length, get_or, set, take, replicate, length-set}
use lib.Seq.{ext_get_or, get_or-set_same, get_or-set_other}
use Rattle.child_slots.specs.Children.{free_check}
use Rattle.placing.specs.Placing.{Room, slots, used_slots, is_free, update}
use Rattle.placing.proofs.FirstFit.{is_free-yes, is_free-no}
use Rattle.placing.proofs.Rooms.{update_same, update_other}

pub length-slots : (n : ℕ) (f : Room) → length (slots n f) ≡ n
unfolding slots
length-slots zero f = refl
length-slots (suc n) f = ap suc (length-slots n (λ t. f (suc t)))

pub get_or-slots : (n : ℕ) (f : Room) (t : ℕ) (x : ℤ) → t < n → get_or (slots n f) t x ≡ f t
unfolding slots
get_or-slots zero f t x h = absurd (omega arith)
get_or-slots (suc n) f zero x h = refl
get_or-slots (suc n) f (suc t) x h = get_or-slots n (λ t. f (suc t)) t x (omega arith)

-- a store past the end changes neither side
pub set-slots : (n : ℕ) (f : Room) (i : ℕ) (v : ℤ) → set (slots n f) i v ≡ slots n (update f i v)
set-slots n f i v =
    ext_get_or (pos 0) (set (slots n f) i v) (slots n (update f i v)) (length-set (slots n f) i v ∙ length-slots n f ∙ sym (length-slots n (update f i v)))
    (λ t l. at t (omega (arith, length-set (slots n f) i v, length-slots n f)) (ℕ_discrete t i))
  where
    at : (t : ℕ) → t < n → Dec (t ≡ i) → get_or (set (slots n f) i v) t (pos 0) ≡ get_or (slots n (update f i v)) t (pos 0)
    at t l (yes e) =
        ap (λ (k : ℕ). get_or (set (slots n f) i v) k (pos 0)) e
        ∙ get_or-set_same (slots n f) i v (pos 0) (omega (arith, length-slots n f))
        ∙ sym (get_or-slots n (update f i v) t (pos 0) l ∙ update_same f i v t e)
    at t l (no e) =
        get_or-set_other (slots n f) i t v (pos 0) e ∙ get_or-slots n f t (pos 0) l
        ∙ sym (get_or-slots n (update f i v) t (pos 0) l ∙ update_other f i v t e)

-- the first N of the first M slots
pub take-slots : (N M : ℕ) (f : Room) → N ≤ M → take N (slots M f) ≡ slots N f
unfolding slots
take-slots zero M f h = refl
take-slots (suc N) zero f h = absurd (omega arith)
take-slots (suc N) (suc M) f h = ap (λ (l : List ℤ). f 0 ∷ l) (take-slots N M (λ t. f (suc t)) (omega arith))

-- a room that holds one number everywhere,
pub slots-alike : (n : ℕ) (f : Room) (v : ℤ) → ((t : ℕ) → f t ≡ v) → slots n f ≡ replicate n v
unfolding slots
slots-alike zero f v h = refl
slots-alike (suc n) f v h = ap₂ (λ (x : ℤ) (l : List ℤ). x ∷ l) (h 0) (slots-alike n (λ t. f (suc t)) v (λ t. h (suc t)))

-- and one that holds it from slot N on
pub slots-past : (N M : ℕ) (f : Room) (v : ℤ) → ((t : ℕ) → N ≤ t → f t ≡ v) → N ≤ M → slots M f ≡ slots N f ++ replicate (M - N) v
unfolding slots
slots-past zero M f v h l = let e : M - 0 ≡ M = omega arith in rw e (slots-alike M f v (λ t. h t (omega arith)))
slots-past (suc N) zero f v h l = absurd (omega arith)
slots-past (suc N) (suc M) f v h l =
    let e : suc M - suc N ≡ M - N = omega arith in
    rw e (ap (λ (r : List ℤ). f 0 ∷ r) (slots-past N M (λ t. f (suc t)) v (λ t k. h (suc t) (omega arith)) (omega arith)))

-- a list that reaches as far as the room is used tells how far that is
pub used_slots-slots : (n top : ℕ) (c : Room) → ((t : ℕ) → top ≤ t → c t ≡ free_check) → ((t : ℕ) → top ≡ suc t → c t ≢ free_check) → top ≤ n → used_slots (slots n c) ≡ top
unfolding used_slots slots
used_slots-slots zero top c past last l = omega arith
used_slots-slots (suc n) zero c past last l =
    rw (is_free-yes (c 0) (past 0 (omega arith)), used_slots-slots n 0 (λ t. c (suc t)) (λ t h. past (suc t) (omega arith)) (λ t e. absurd (omega arith)) (omega arith))
used_slots-slots (suc n) (suc zero) c past last l =
    rw (is_free-no (c 0) (last 0 refl), used_slots-slots n 0 (λ t. c (suc t)) (λ t h. past (suc t) (omega arith)) (λ t e. absurd (omega arith)) (omega arith))
used_slots-slots (suc n) (suc (suc top)) c past last l =
    rw (used_slots-slots n (suc top) (λ t. c (suc t)) (λ t h. past (suc t) (omega arith)) (λ t e. last (suc t) (omega arith)) (omega arith), ne_eqb (suc top) 0 (λ e. absurd (omega arith))) (go (is_free (c 0)))
  where
    go : (b : Bool) → cond (b && false) 0 (suc (suc top)) ≡ suc (suc top)
    go true = refl
    go false = refl
