-- Laws of specs/DoubleArray.antt: a node's marker, children, the head, the walk. Of a definition by tests, the law `..-told` says in plain
-- facts what holds where it answers, and `..-shown` is the converse. Assumes nothing.
use Rattle.std.specs.declared.option.Option.{Option}
use Rattle.std.specs.declared.option.Option.TheVariants.{Some, None}
use mathlib.Core.Path.{◌≡◌, refl, sym, ◌∙◌}
use mathlib.Core.Logic.{◌≢◌}
use mathlib.Core.Bool.{Bool, true, false, cond, ◌&&◌, false≢true}
use mathlib.Core.List.{List, [], ◌∷◌}
use Prim.Native.Nat.{ℕ, suc, ◌≤◌, ◌<◌}
use native.Mathlib.Omega.{arith}
use native.Mathlib.Decide.{ℕ_discrete}
use lib.Dec.{eqb, leb, ltb}
use lib.ListN.{length, get_or}
use lib.IntN.{ℤ, pos, negsuc, neg_ℤ, nat_abs, ◌+ℤ◌}
use lib.Signed.{le_z, lt_z, ◌≤ℤ◌}
use borrow.Author.Tests.{leb-true, leb-false, le-ltb, le-leb, eq-eqb, ne_eqb}
use Rattle.integer.specs.Integer.{eq_z, between, half, odd}
use Rattle.integer.proofs.Arithmetic.{zarith, sub, shr, abs}
use Rattle.integer.proofs.Ranges.{and_left, and_right, and_both, between-low, between-high, between-yes}
use Rattle.backoff.specs.Limits.{least_probability, largest_backoff, word_limit, order_limit, row_limit, slot_limit}
use Rattle.backoff.specs.Words.{is_word, radix}
use Rattle.backoff.specs.Model.{in_probability, in_backoff}
use Rattle.backoff.specs.Store.{absent, broken, here}
use Rattle.markers.specs.Markers.{marker_check, marker_base, marker_of}
use Rattle.markers.specs.Markers.{Sound, Broken}
use Rattle.markers.proofs.Markers.{marker_sound, guarded, sound-read}
use Rattle.child_slots.specs.Children.{free_check, child_slot, base_at, check_at, owned_by, or_else, on_either_side, child_at, root_child}
use Rattle.child_slots.proofs.Children.{owned_none, negative_childless}
use Rattle.double_array.specs.DoubleArray.{head_check, kept_marker, own_marker, marker_at, down_to, look_from, sizes_ok, order_ok, head_ok, is_array, order_in, look_row, store_in, opened}

-- four tests that all hold
all-four : (a b c d : Bool) → (a && (b && (c && d))) ≡ true → (a ≡ true) × (b ≡ true) × (c ≡ true) × (d ≡ true)
all-four true true true d h = (refl, refl, refl, h)
all-four true true false d h = absurd (false≢true h)
all-four true false c d h = absurd (false≢true h)
all-four false b c d h = absurd (false≢true h)

-- ---- markers

-- "A marker is sound if 1 ≤ d < N and the p and b read from it are in range."
pub record IsMarker (base check : List ℤ) (s : ℕ) (p b : ℤ) (e f : Bool) : Type 0 where
  pub some-base : pos 1 ≤ℤ base_at base check s
  pub inside : nat_abs (base_at base check s) < length check
  pub p-packed : check_at base check (nat_abs (base_at base check s)) ≡ marker_check p
  pub b-packed : base_at base check (nat_abs (base_at base check s)) ≡ marker_base b e f
  pub p_in_range : in_probability p ≡ true
  pub b_in_range : in_backoff b ≡ true

module _ (base check : List ℤ) (s : ℕ) (p b : ℤ) (e f : Bool) where
  pub kept_told : kept_marker base check s ≡ Sound p b e f → IsMarker base check s p b e f
  unfolding kept_marker
  kept_told h =
      let d = base_at base check s in
      let tests = guarded (le_z (pos 1) d) (lt_z d (pos (length check))) (marker_of (check_at base check (nat_abs d)) (base_at base check (nat_abs d))) p b e f h in
      let r = sound-read (check_at base check (nat_abs d)) (base_at base check (nat_abs d)) p b e f tests.2 in
      record { some-base = omega zarith; inside = omega (zarith, abs d); p-packed = r.0; b-packed = r.1; p_in_range = r.2; b_in_range = r.3 }

-- what it is where BASE is no slot of a marker, and where it is one
module _ (base check : List ℤ) (s : ℕ) where
  pub kept-low : lt_z (base_at base check s) (pos 1) ≡ true → kept_marker base check s ≡ Broken
  unfolding kept_marker
  kept-low h = let e : le_z (pos 1) (base_at base check s) ≡ false = omega zarith in rw e

  pub kept-outside : lt_z (base_at base check s) (pos 1) ≡ false → length check ≤ nat_abs (base_at base check s) → kept_marker base check s ≡ Broken
  unfolding kept_marker
  kept-outside h l =
      let d = base_at base check s in
      let e : le_z (pos 1) d ≡ true = omega zarith in
      let u : lt_z d (pos (length check)) ≡ false = omega (zarith, abs d) in
      rw (e, u)

  pub kept-inside : lt_z (base_at base check s) (pos 1) ≡ false → nat_abs (base_at base check s) < length check → kept_marker base check s ≡ marker_of (check_at base check (nat_abs (base_at base check s))) (base_at base check (nat_abs (base_at base check s)))
  unfolding kept_marker
  kept-inside h l =
      let d = base_at base check s in
      let e : le_z (pos 1) d ≡ true = omega zarith in
      let u : lt_z d (pos (length check)) ≡ true = omega (zarith, abs d) in
      rw (e, u)

-- what a node of n words says where it is sound: p and nothing else
pub record IsOwn (base check : List ℤ) (s : ℕ) (p b : ℤ) (e f : Bool) : Type 0 where
  pub packed : base_at base check s ≡ marker_check p
  pub p_in_range : in_probability p ≡ true
  pub no-b : b ≡ pos 0
  pub no-e : e ≡ false
  pub no-f : f ≡ false

pub own_told : (base check : List ℤ) (s : ℕ) (p b : ℤ) (e f : Bool) → own_marker base check s ≡ Sound p b e f → IsOwn base check s p b e f
unfolding own_marker marker_of
own_told base check s p b e f h =
    let own = base_at base check s in
    let r = sound-read own (pos 0) p b e f h in
    let said = (guarded (in_probability (own +ℤ pos 1)) (in_backoff (half (half (pos 0)))) (Sound (own +ℤ pos 1) (half (half (pos 0))) (odd (half (pos 0))) (odd (pos 0))) p b e f h).2 in
    record { packed = r.0; p_in_range = r.2; no-b = sym (cc); no-e = sym (cc); no-f = sym (cc) }

-- which of the two a node has
module _ (base check : List ℤ) (k s : ℕ) where
  pub marker_own : k ≡ order_in check → marker_at base check k s ≡ own_marker base check s
  unfolding marker_at
  marker_own e = rw (eq-eqb k (order_in check) e)

  pub marker_kept : k ≢ order_in check → marker_at base check k s ≡ kept_marker base check s
  unfolding marker_at
  marker_kept n = rw (ne_eqb k (order_in check) n)

  -- either way p and b are in range
  pub marker_in_range : (p b : ℤ) (e f : Bool) → marker_at base check k s ≡ Sound p b e f → (in_probability p ≡ true) × (in_backoff b ≡ true)
  unfolding in_backoff between
  marker_in_range p b e f h = go (ℕ_discrete k (order_in check))
    where
      go : Dec (k ≡ order_in check) → (in_probability p ≡ true) × (in_backoff b ≡ true)
      go (yes q) = let o = own_told base check s p b e f (sym (marker_own q) ∙ h) in (o.p_in_range, rw o.no-b)
      go (no q) = let m = kept_told base check s p b e f (sym (marker_kept q) ∙ h) in (m.p_in_range, m.b_in_range)

-- ---- children of a node that keeps a sound marker

module _ (base check : List ℤ) (s : ℕ) (p b : ℤ) (e f : Bool) (sound : kept_marker base check s ≡ Sound p b e f) where
  abbrev d : ℤ
  d = base_at base check s

  m : IsMarker base check s p b e f
  m = kept_told base check s p b e f sound

  -- its marker's CHECK is negative
  pub marker_unowned : owned_by check s (nat_abs d) ≡ None
  unfolding in_probability
  marker_unowned =
      let high = between-high least_probability (pos 0) p m.p_in_range in
      owned_none check s (nat_abs d) (λ l q. absurd (omega (zarith, m.p-packed, sub p (pos 1))))

  -- the slots that BASE names for a number below the radix tell the child alone: for 0 they are the marker's
  pub child_owned : (w : ℕ) → w < radix → child_at base check s w ≡ on_either_side check s (nat_abs d) w
  unfolding child_at is_word
  child_owned w small = go (leb 1 w) refl
    where
      low : le_z (pos 1) d ≡ true
      low = let l = m.some-base in omega zarith

      either : (t : Bool) (c : Option ℕ) → c ≡ cond t c c
      either true c = refl
      either false c = refl

      go : (t : Bool) → leb 1 w ≡ t → cond ((t && leb w word_limit) && le_z (pos 1) d) (on_either_side check s (nat_abs d) w) None ≡ on_either_side check s (nat_abs d) w
      go true h = rw (le-leb w word_limit (omega arith), low)
      go false h =
          let z = leb-false 1 w h in
          let ahead : child_slot false (nat_abs d) w ≡ nat_abs d = omega arith in
          let back : child_slot true (nat_abs d) w ≡ nat_abs d = omega arith in
          rw (ahead, back, marker_unowned) (either (ltb w (nat_abs d)) None)

-- ---- the head

-- the lengths that 2 and 11 leave
pub record Sizes (base check : List ℤ) : Type 0 where
  pub same : length base ≡ length check
  pub low : 2 ≤ length base
  pub high : length base ≤ slot_limit

-- "BASE[0] is 1 and CHECK[0] is n. CHECK[1] is −1 and BASE[1] is the number of rows"
pub record Head (base check : List ℤ) : Type 0 where
  pub root-base : base_at base check 0 ≡ pos 1
  pub order : order_ok check ≡ true
  pub root-check : check_at base check 1 ≡ negsuc 0
  pub rows : between (pos 3) (pos row_limit) (base_at base check 1) ≡ true

-- CHECK[0] is there and in range: what is free is not
pub record OrderHead (check : List ℤ) : Type 0 where
  pub inside : 0 < length check
  pub low : head_check 1 ≤ℤ get_or check 0 free_check
  pub high : get_or check 0 free_check ≤ℤ head_check order_limit

pub order_told : (check : List ℤ) → order_ok check ≡ true → OrderHead check
unfolding order_ok
order_told [] h = absurd (false≢true (unfold between in h))
order_told (k ∷ ks) h =
    record { inside = omega arith; low = between-low (head_check 1) (head_check order_limit) k h; high = between-high (head_check 1) (head_check order_limit) k h }

module _ (base check : List ℤ) where
  pub sizes_told : sizes_ok base check ≡ true → Sizes base check
  unfolding sizes_ok
  sizes_told h =
      let n = length base in
      let m = length check in
      let same = and_left (eqb n m) (leb 2 n && leb n slot_limit) h in
      let rest = and_right (eqb n m) (leb 2 n && leb n slot_limit) h in
      let low = and_left (leb 2 n) (leb n slot_limit) rest in
      let high = and_right (leb 2 n) (leb n slot_limit) rest in
      record { same = omega zarith; low = omega zarith; high = omega zarith }

  pub sizes_shown : Sizes base check → sizes_ok base check ≡ true
  unfolding sizes_ok
  sizes_shown z = rw (eq-eqb (length base) (length check) z.same, le-leb 2 (length base) z.low, le-leb (length base) slot_limit z.high)

  pub head_told : head_ok base check ≡ true → Head base check
  unfolding head_ok
  head_told h =
      let tests = all-four (eq_z (base_at base check 0) (pos 1)) (order_ok check) (eq_z (check_at base check 1) (negsuc 0)) (between (pos 3) (pos row_limit) (base_at base check 1)) h in
      record { root-base = omega zarith; order = tests.1; root-check = omega zarith; rows = tests.3 }

  pub head_shown : Head base check → head_ok base check ≡ true
  unfolding head_ok
  head_shown e =
      let b : eq_z (base_at base check 0) (pos 1) ≡ true = omega zarith in
      let k : eq_z (check_at base check 1) (negsuc 0) ≡ true = omega zarith in
      rw (b, e.order, k, e.rows)

-- ---- the array that 11 lets pass

module _ (base check : List ℤ) (h : is_array base check ≡ true) where
  pub opened-sizes : Sizes base check
  opened-sizes = sizes_told base check (and_left (sizes_ok base check) (head_ok base check) h)

  pub opened-head : Head base check
  opened-head = head_told base check (and_right (sizes_ok base check) (head_ok base check) h)

  pub opened-order : (1 ≤ order_in check) × (order_in check ≤ order_limit)
  unfolding order_in
  opened-order = let o = order_told check opened-head.order in omega (zarith, abs (get_or check 0 free_check))

  -- the marker of the root is slot 1
  pub root-sound : marker_at base check 0 0 ≡ Sound (pos 0) (half (half (base_at base check 1))) (odd (half (base_at base check 1))) (odd (base_at base check 1))
  unfolding kept_marker in_probability in_backoff between
  root-sound =
      let n = opened-order in
      let z = opened-sizes in
      let inside : lt_z (pos 1) (pos (length check)) ≡ true = omega zarith in
      let rows = base_at base check 1 in
      let l = between-low (pos 3) (pos row_limit) rows opened-head.rows in
      let u = between-high (pos 3) (pos row_limit) rows opened-head.rows in
      let b = between-yes (neg_ℤ (pos largest_backoff)) (pos largest_backoff) (half (half rows)) (omega (zarith, shr 2 rows tt, shr 2 (half rows) tt)) (omega (zarith, shr 2 rows tt, shr 2 (half rows) tt)) in
      marker_kept base check 0 0 (λ q. absurd (omega arith))
      ∙ rw (opened-head.root-base, inside, opened-head.root-check) (marker_sound (negsuc 0) rows (and_both _ _ refl b))

  -- BASE[0] is 1, and no slot behind it is a child's
  pub root-child : (w : ℕ) → root_child check w ≡ child_at base check 0 w
  unfolding child_at is_word
  root-child w = rw opened-head.root-base (go (leb 1 w) refl)
    where
      alone : (c : Option ℕ) → c ≡ or_else c None
      alone (Some t) = refl
      alone None = refl

      go : (t : Bool) → leb 1 w ≡ t → cond (t && leb w word_limit) (owned_by check 0 (child_slot false 1 w)) None
          ≡ cond ((t && leb w word_limit) && true) (on_either_side check 0 1 w) None
      go true h = rw (le-ltb w 1 (leb-true 1 w h)) (elim (leb w word_limit) as (λ r. cond r (owned_by check 0 (child_slot false 1 w)) None ≡ cond (r && true) (or_else (owned_by check 0 (child_slot false 1 w)) None) None) [ true ↦ alone (owned_by check 0 (child_slot false 1 w)) | false ↦ refl ])
      go false h = refl

  pub opened_some : opened base check ≡ Some (store_in base check)
  unfolding opened
  opened_some = rw h

pub opened-none : (base check : List ℤ) → is_array base check ≡ false → opened base check ≡ None
unfolding opened
opened-none base check h = rw h

-- ---- the walk

module _ (base check : List ℤ) (k s : ℕ) where
  pub look-here : (p b : ℤ) (e f : Bool) → marker_at base check k s ≡ Sound p b e f → look_from base check k s [] ≡ here (record { p = p; b = b; e = e; f = f })
  unfolding look_from
  look-here p b e f m = rw m

  pub look-down : (p b : ℤ) (e f : Bool) (w : ℕ) (ws : List ℕ) → marker_at base check k s ≡ Sound p b e f → look_from base check k s (w ∷ ws) ≡ down_to (child_at base check s w) (λ (t : ℕ). look_from base check (suc k) t ws)
  unfolding look_from
  look-down p b e f w ws m = rw m

  pub look-broken : (ws : List ℕ) → marker_at base check k s ≡ Broken → look_from base check k s ws ≡ broken
  unfolding look_from
  look-broken [] e = rw e
  look-broken (w ∷ ws) e = rw e

-- a sound node of n words has a negative BASE, so that no walk goes on from it
pub look-below-longest : (base check : List ℤ) (s : ℕ) (p b : ℤ) (e f : Bool) (w : ℕ) (ws : List ℕ) → marker_at base check (order_in check) s ≡ Sound p b e f → look_from base check (order_in check) s (w ∷ ws) ≡ absent
unfolding in_probability
look-below-longest base check s p b e f w ws m =
    let o = own_told base check s p b e f (sym (marker_own base check (order_in check) s refl) ∙ m) in
    let high = between-high least_probability (pos 0) p o.p_in_range in
    let negative : base_at base check s ≡ negsuc (nat_abs p) = omega (zarith, o.packed, sub p (pos 1), abs p) in
    look-down base check (order_in check) s p b e f w ws m ∙ rw (negative_childless base check s negative w)

pub look-row : (base check : List ℤ) (l : List ℕ) → 1 ≤ length l → look_row base check l ≡ look_from base check 0 0 l
look-row base check [] h = absurd (omega arith)
look-row base check (w ∷ ws) h = refl
