-- Laws of specs/Children.antt: slots on either side, and the child for a word. `..-told` says in plain facts what holds where a test answers, and `..-shown` is the
-- converse. Assumes nothing.
use Rattle.std.specs.declared.option.Option.{Option}
use Rattle.std.specs.declared.option.Option.TheVariants.{Some, None}
use mathlib.Core.Path.{◌≡◌, refl, sym, ap, ◌∙◌}
use mathlib.Core.Logic.{◌≢◌}
use mathlib.Core.Bool.{Bool, true, false, cond, ◌&&◌, false≢true}
use mathlib.Core.List.{List}
use Prim.Native.Nat.{ℕ, ◌≤◌, ◌<◌}
use native.Mathlib.Omega.{arith}
use lib.Dec.{leb, ltb}
use lib.ListN.{length, get_or}
use lib.IntN.{ℤ, pos, negsuc, nat_abs, pos-ne-negsuc}
use lib.Signed.{le_z, ◌≤ℤ◌}
use borrow.Author.Tests.{leb-true, leb-false, ltb-true, lt-ltb, le-leb}
use Rattle.integer.specs.Integer.{eq_z}
use Rattle.integer.proofs.Arithmetic.{zarith, abs}
use Rattle.integer.proofs.Ranges.{and_left, and_right}
use Rattle.backoff.specs.Limits.{word_limit}
use Rattle.backoff.specs.Words.{is_word}
use Rattle.child_slots.specs.Children.{free_check, child_slot, word_at, base_at, check_at, owned_by, or_else, on_either_side, child_at, root_child}

pub word_of-slot : (behind : Bool) (d w t : ℕ) → child_slot behind d w ≡ t → 1 ≤ t → word_at d t ≡ w
word_of-slot true d w t e h = omega arith
word_of-slot false d w t e h = omega arith

-- two words' slots of which neither is 0 are one only where the words and the sides are
pub slots_apart : (a b : Bool) (d v w : ℕ) → 1 ≤ v → 1 ≤ w → 1 ≤ child_slot a d v → 1 ≤ child_slot b d w → child_slot a d v ≡ child_slot b d w → (a ≡ b) × (v ≡ w)
slots_apart true true d v w h k l m e = (refl, omega arith)
slots_apart true false d v w h k l m e = absurd (omega arith)
slots_apart false true d v w h k l m e = absurd (omega arith)
slots_apart false false d v w h k l m e = (refl, omega arith)

-- and none is d, the marker's
pub marker_apart : (behind : Bool) (d w : ℕ) → 1 ≤ d → 1 ≤ w → d ≢ child_slot behind d w
marker_apart true d w h k e = absurd (omega arith)
marker_apart false d w h k e = absurd (omega arith)

-- a child behind a test
chosen : (test : Bool) (c : Option ℕ) (t : ℕ) → cond test c None ≡ Some t → (test ≡ true) × (c ≡ Some t)
chosen true c t h = (refl, h)
chosen false c t h = absurd (false≢true (cc))

module _ (check : List ℤ) (s t : ℕ) where
  pub owned_told : (u : ℕ) → owned_by check s t ≡ Some u → (t ≡ u) × (u < length check) × (get_or check u free_check ≡ pos s)
  owned_told u h =
      let found = chosen (ltb t (length check) && eq_z (get_or check t free_check) (pos s)) (Some t) u h in
      let inside = and_left (ltb t (length check)) (eq_z (get_or check t free_check) (pos s)) found.0 in
      let owned = and_right (ltb t (length check)) (eq_z (get_or check t free_check) (pos s)) found.0 in
      let owner : get_or check t free_check ≡ pos s = omega zarith in
      let same : t ≡ u = cc in
      (same, omega zarith, rw same at owner)

  pub owned_shown : t < length check → get_or check t free_check ≡ pos s → owned_by check s t ≡ Some t
  owned_shown l q =
      let owned : eq_z (get_or check t free_check) (pos s) ≡ true = omega zarith in
      rw (lt-ltb t (length check) l, owned)

  pub owned_none : (t < length check → get_or check t free_check ≡ pos s → ⊥) → owned_by check s t ≡ None
  owned_none h = go (owned_by check s t) refl
    where
      go : (r : Option ℕ) → owned_by check s t ≡ r → r ≡ None
      go (Some u) e =
          let o = owned_told u e in
          absurd (h (rw o.0 o.1) (rw o.0 o.2))
      go None e = refl

-- the child for w lies on this side of d: "A walk looks at d + w, then at d − w if that is at least 1."
pub record IsChild (base check : List ℤ) (s w t : ℕ) : Type 0 where
  pub word : is_word w ≡ true
  pub some-base : pos 1 ≤ℤ base_at base check s
  pub behind : Bool
  pub slot : child_slot behind (nat_abs (base_at base check s)) w ≡ t
  pub positive : 1 ≤ t
  pub inside : t < length check
  pub owner : check_at base check t ≡ pos s
  pub first : behind ≡ true → owned_by check s (child_slot false (nat_abs (base_at base check s)) w) ≡ None

module _ (base check : List ℤ) (s w t : ℕ) where
  abbrev own : ℤ
  own = base_at base check s

  pub child_told : child_at base check s w ≡ Some t → IsChild base check s w t
  unfolding child_at
  child_told h = go (owned_by check s (child_slot false (nat_abs own) w)) refl (ltb w (nat_abs own)) refl found.1
    where
      found : ((is_word w && le_z (pos 1) own) ≡ true) × (on_either_side check s (nat_abs own) w ≡ Some t)
      found = chosen (is_word w && le_z (pos 1) own) (on_either_side check s (nat_abs own) w) t h

      low : pos 1 ≤ℤ own
      low = let e = and_right (is_word w) (le_z (pos 1) own) found.0 in omega zarith

      go : (a : Option ℕ) → owned_by check s (child_slot false (nat_abs own) w) ≡ a → (room : Bool) → ltb w (nat_abs own) ≡ room
          → or_else a (cond room (owned_by check s (child_slot true (nat_abs own) w)) None) ≡ Some t → IsChild base check s w t
      go (Some u) e room q k =
          let same : u ≡ t = cc in
          let o = owned_told check s (child_slot false (nat_abs own) w) t (e ∙ k) in
          record {
            word = and_left (is_word w) (le_z (pos 1) own) found.0;
            some-base = low;
            behind = false;
            slot = o.0;
            positive = omega (zarith, abs own, low, o.0);
            inside = o.1;
            owner = o.2;
            first = λ z. absurd (false≢true z);
          }
      go None e true q k =
          let o = owned_told check s (child_slot true (nat_abs own) w) t k in
          record {
            word = and_left (is_word w) (le_z (pos 1) own) found.0;
            some-base = low;
            behind = true;
            slot = o.0;
            positive = omega (arith, ltb-true w (nat_abs own) q, o.0);
            inside = o.1;
            owner = o.2;
            first = λ z. e;
          }
      go None e false q k = absurd (false≢true (cc))

  pub child_shown : IsChild base check s w t → child_at base check s w ≡ Some t
  unfolding child_at
  child_shown c = rw (c.word, low) (go c.behind c.slot c.first)
    where
      low : le_z (pos 1) own ≡ true
      low = let l = c.some-base in omega zarith

      mine : owned_by check s t ≡ Some t
      mine = owned_shown check s t c.inside c.owner

      go : (b : Bool) → child_slot b (nat_abs own) w ≡ t → (b ≡ true → owned_by check s (child_slot false (nat_abs own) w) ≡ None) → on_either_side check s (nat_abs own) w ≡ Some t
      go true e f = rw (f refl, lt-ltb w (nat_abs own) (omega (arith, c.positive)), e) mine
      go false e f = ap (λ (u : ℕ). or_else (owned_by check s u) (cond (ltb w (nat_abs own)) (owned_by check s (child_slot true (nat_abs own) w)) None)) e ∙ rw mine

  pub child-inside : child_at base check s w ≡ Some t → t < length check
  child-inside h = (child_told h).inside

  pub child-word : child_at base check s w ≡ Some t → 1 ≤ w
  unfolding is_word
  child-word h = leb-true 1 w (and_left (leb 1 w) (leb w word_limit) (child_told h).word)

-- the slot that BASE names for a number below the radix tells the root's child alone: for 0 it is the marker's
pub root_owned : (check : List ℤ) (w : ℕ) → get_or check 1 free_check ≡ negsuc 0 → w ≤ word_limit → root_child check w ≡ owned_by check 0 (child_slot false 1 w)
unfolding is_word
root_owned check w m small = go (leb 1 w) refl
  where
    go : (t : Bool) → leb 1 w ≡ t → cond (t && leb w word_limit) (owned_by check 0 (child_slot false 1 w)) None ≡ owned_by check 0 (child_slot false 1 w)
    go true h = rw (le-leb w word_limit small)
    go false h =
        let z = leb-false 1 w h in
        let k : child_slot false 1 w ≡ 1 = omega arith in
        rw (k, owned_none check 0 1 (λ l q. pos-ne-negsuc _ _ (sym q ∙ m)))

-- a slot has one CHECK, so it is the child of one node for one word
pub child_unique : (base check : List ℤ) (s w r v t : ℕ) → child_at base check s w ≡ Some t → child_at base check r v ≡ Some t → (s ≡ r) × (w ≡ v)
child_unique base check s w r v t h k =
    let c = child_told base check s w t h in
    let e = child_told base check r v t k in
    let same : s ≡ r = omega (zarith, c.owner, e.owner) in
    let d = ap (λ (i : ℕ). nat_abs (base_at base check i)) same in
    let there : child_slot e.behind (nat_abs (base_at base check s)) v ≡ t = rw (sym d) at e.slot in
    (same, (slots_apart c.behind e.behind (nat_abs (base_at base check s)) w v (child-word base check s w t h) (child-word base check r v t k) (rw c.slot c.positive) (rw there e.positive) (c.slot ∙ sym there)).1)

-- there is no child where no slot is the child's
pub child-absent : (base check : List ℤ) (s w : ℕ) → ((t : ℕ) → child_at base check s w ≡ Some t → ⊥) → child_at base check s w ≡ None
child-absent base check s w h = go (child_at base check s w) refl
  where
    go : (r : Option ℕ) → child_at base check s w ≡ r → r ≡ None
    go (Some t) e = absurd (h t e)
    go None e = refl

-- a node whose BASE is negative has no child
pub negative_childless : (base check : List ℤ) (s : ℕ) {c : ℕ} → base_at base check s ≡ negsuc c → (w : ℕ) → child_at base check s w ≡ None
negative_childless base check s b w = child-absent base check s w (λ t e. let l = (child_told base check s w t e).some-base in absurd (omega (zarith, b)))
