-- Laws of the first fit: what it finds is free, at least 1, the smallest such and the only one. Assumes nothing.
use mathlib.Core.Path.{◌≡◌, refl, sym, ◌∙◌, subst}
use mathlib.Core.Logic.{◌≢◌}
use mathlib.Core.Bool.{Bool, true, false, ◌&&◌, ◌||◌, false≢true}
use mathlib.Core.List.{List, [], ◌∷◌, Memᴰ}
use Prim.Native.Nat.{ℕ, zero, suc, ◌+◌, ◌≤◌, ◌<◌}
use native.Mathlib.Omega.{arith}
use native.Mathlib.Decide.{ℕ_discrete, dec_lt}
use borrow.Author.Tests.{leb-true, le-leb}
use lib.Dec.{leb}
use lib.IntN.{ℤ}
use Rattle.integer.proofs.Arithmetic.{zarith}
use Rattle.integer.proofs.Ranges.{and_left, and_right, and_both}
use Rattle.child_slots.specs.Children.{free_check, child_slot}
use Rattle.placing.specs.Placing.{Room, is_free, is_open, all_open, fits, search, first_fit}

pub is_free-true : (z : ℤ) → is_free z ≡ true → z ≡ free_check
unfolding is_free
is_free-true z e = omega zarith

pub is_free-yes : (z : ℤ) → z ≡ free_check → is_free z ≡ true
unfolding is_free
is_free-yes z e = rw e

pub is_free-no : (z : ℤ) → z ≢ free_check → is_free z ≡ false
is_free-no z h = go (is_free z) refl
  where
    go : (b : Bool) → is_free z ≡ b → b ≡ false
    go true e = absurd (h (is_free-true z e))
    go false e = refl

-- ---- the search, for any test

module _ (test : ℕ → Bool) where
  search-from : (more d : ℕ) (b : Bool) → d ≤ search test more d b
  unfolding search
  search-from zero d b = omega arith
  search-from (suc more) d true = omega arith
  search-from (suc more) d false = omega (arith, search-from more (suc d) (test (suc d)))

  search_passes : (more d : ℕ) (b : Bool) → test d ≡ b → test (d + more) ≡ true → test (search test more d b) ≡ true
  unfolding search
  search_passes zero d b e h = subst (λ (k : ℕ). test k ≡ true) (omega arith) h
  search_passes (suc more) d true e h = e
  search_passes (suc more) d false e h =
      search_passes more (suc d) (test (suc d)) refl (subst (λ (k : ℕ). test k ≡ true) (omega arith) h)

  search-first : (more d : ℕ) (b : Bool) → test d ≡ b → (e : ℕ) → d ≤ e → e < search test more d b → test e ≡ false
  unfolding search
  search-first zero d b q e h k = absurd (omega arith)
  search-first (suc more) d true q e h k = absurd (omega arith)
  search-first (suc more) d false q e h k =
      go (λ (l : suc d ≤ e). search-first more (suc d) (test (suc d)) refl e l k) (ℕ_discrete d e)
    where
      go : (suc d ≤ e → test e ≡ false) → Dec (d ≡ e) → test e ≡ false
      go rec (yes p) = subst (λ (x : ℕ). test x ≡ false) p q
      go rec (no ne) = rec (omega arith)

-- ---- the test of the placing rule

module _ (c : Room) where
  pub open_told : (t : ℕ) → is_open c t ≡ true → (1 ≤ t) × (c t ≡ free_check)
  unfolding is_open
  open_told t e = (leb-true 1 t (and_left (leb 1 t) (is_free (c t)) e), is_free-true (c t) (and_right (leb 1 t) (is_free (c t)) e))

  pub open_yes : (t : ℕ) → 1 ≤ t → is_free (c t) ≡ true → is_open c t ≡ true
  unfolding is_open
  open_yes t l e = rw (le-leb 1 t l, e)

  -- behind d there is no slot for a word that is not below d
  pub open_none : (d w : ℕ) → d ≤ w → is_open c (child_slot true d w) ≡ false
  unfolding is_open
  open_none d w l = let e : child_slot true d w ≡ 0 = omega arith in rw e

  module _ (behind : Bool) (d : ℕ) where
    all_open_lem : (vs : List ℕ) → ((w : ℕ) → Memᴰ w vs → is_open c (child_slot behind d w) ≡ true) → all_open c behind d vs ≡ true
    unfolding all_open
    all_open_lem [] h = refl
    all_open_lem (v ∷ vs) h =
        and_both (is_open c (child_slot behind d v)) (all_open c behind d vs) (h v (Memᴰ.head refl)) (all_open_lem vs (λ w m. h w (Memᴰ.tail m)))

    pub all_open-at : (vs : List ℕ) → all_open c behind d vs ≡ true → (w : ℕ) → Memᴰ w vs → is_open c (child_slot behind d w) ≡ true
    unfolding all_open
    all_open-at [] h w x'' = elim x'' [ ]
    all_open-at (v ∷ vs) h w (Memᴰ.head e) = rw e (and_left (is_open c (child_slot behind d v)) (all_open c behind d vs) h)
    all_open-at (v ∷ vs) h w (Memᴰ.tail m) = all_open-at vs (and_right (is_open c (child_slot behind d v)) (all_open c behind d vs) h) w m

module _ (c : Room) (ws : List ℕ) where
  -- the side that is tried first where it is open, and else the other
  abbrev pub side_at : ℕ → Bool
  side_at d = all_open c true d ws

  -- the tests that a search makes of d
  pub fits-yes : (behind : Bool) (d : ℕ) → is_free (c d) ≡ true → all_open c behind d ws ≡ true → fits c ws d ≡ true
  unfolding fits
  fits-yes true d e h = rw (e, h)
  fits-yes false d e h = rw (e, h) (elim (all_open c true d ws) as (λ b. (b || true) ≡ true) [ true ↦ refl | false ↦ refl ])

  pub d_taken : (d : ℕ) → is_free (c d) ≡ false → fits c ws d ≡ false
  unfolding fits
  d_taken d e = rw e

  pub sides_taken : (d : ℕ) → all_open c true d ws ≡ false → all_open c false d ws ≡ false → fits c ws d ≡ false
  unfolding fits
  sides_taken d e h = rw (e, h) (elim (is_free (c d)) as (λ b. (b && false) ≡ false) [ true ↦ refl | false ↦ refl ])

  -- what fits is open on the side that it takes
  pub fits_side : (d : ℕ) → fits c ws d ≡ true → all_open c (side_at d) d ws ≡ true
  unfolding fits
  fits_side d e = go (all_open c true d ws) refl (and_right (is_free (c d)) (all_open c true d ws || all_open c false d ws) e)
    where
      go : (b : Bool) → all_open c true d ws ≡ b → (b || all_open c false d ws) ≡ true → all_open c b d ws ≡ true
      go true q h = q
      go false q h = h

  pub past_top : (top d : ℕ) → ((t : ℕ) → top ≤ t → c t ≡ free_check) → top ≤ d → 1 ≤ d → fits c ws d ≡ true
  past_top top d h k l =
      fits-yes false d (is_free-yes (c d) (h d k))
      (all_open_lem c false d ws (λ w m. open_yes c (child_slot false d w) (omega arith) (is_free-yes (c (child_slot false d w)) (h (child_slot false d w) (omega arith)))))

  -- the laws of the first fit, where all slots from top on are free
  module _ (top : ℕ) (h : (t : ℕ) → top ≤ t → c t ≡ free_check) where
    pub fit_fits : fits c ws (first_fit c ws top) ≡ true
    unfolding first_fit
    fit_fits = search_passes (fits c ws) top 1 (fits c ws 1) refl (past_top top (1 + top) h (omega arith) (omega arith))

    pub fit_positive : 1 ≤ first_fit c ws top
    unfolding first_fit
    fit_positive = search-from (fits c ws) top 1 (fits c ws 1)

    pub fit_free : c (first_fit c ws top) ≡ free_check
    unfolding fits
    fit_free =
        let d = first_fit c ws top in
        is_free-true (c d) (and_left (is_free (c d)) (all_open c true d ws || all_open c false d ws) fit_fits)

    pub fit_children_open : (w : ℕ) → Memᴰ w ws → is_open c (child_slot (side_at (first_fit c ws top)) (first_fit c ws top) w) ≡ true
    fit_children_open w m =
        let d = first_fit c ws top in
        all_open-at c (side_at d) d ws (fits_side d fit_fits) w m

    fit_least : (e : ℕ) → 1 ≤ e → e < first_fit c ws top → fits c ws e ≡ false
    unfolding first_fit
    fit_least = search-first (fits c ws) top 1 (fits c ws 1) refl

    -- what a search in code has to show of its d
    pub fit_only : (d : ℕ) → 1 ≤ d → fits c ws d ≡ true → ((e : ℕ) → 1 ≤ e → e < d → fits c ws e ≡ false) → d ≡ first_fit c ws top
    fit_only d p q l = go (dec_lt d (first_fit c ws top)) (dec_lt (first_fit c ws top) d)
      where
        go : Dec (d < first_fit c ws top) → Dec (first_fit c ws top < d) → d ≡ first_fit c ws top
        go (yes a) b = absurd (false≢true (sym (fit_least d p a) ∙ q))
        go (no a) (yes b) = absurd (false≢true (sym (l (first_fit c ws top) fit_positive b) ∙ fit_fits))
        go (no a) (no b) = omega arith

  -- how far past the last used slot `top` is does not matter
  pub fit_any_top : (a b : ℕ) → ((t : ℕ) → a ≤ t → c t ≡ free_check) → ((t : ℕ) → b ≤ t → c t ≡ free_check) → first_fit c ws a ≡ first_fit c ws b
  fit_any_top a b f g = fit_only b g (first_fit c ws a) (fit_positive a f) (fit_fits a f) (fit_least a f)
