-- Laws of the checks 3 to 6: what each way through them gives, and what a row has that passes them. Assumes nothing.
use mathlib.Core.Path.{◌≡◌, refl, ap, ◌∙◌}
use mathlib.Core.Bool.{Bool, true, false, not, cond, ◌&&◌, ◌||◌, and-true, and-false}
use mathlib.Core.List.{List}
use Prim.Native.Nat.{ℕ, suc, ◌+◌, ◌-◌, ◌<◌, ◌≤◌}
use native.Mathlib.Numerals.{add-one}
use native.Mathlib.Omega.{arith}
use lib.Dec.{eqb, lit<}
use lib.IntN.{ℤ, pos}
use borrow.Author.Tests.{eq-eqb, ne_eqb, eqb-false, not-false}
use Rattle.integer.specs.Integer.{eq_z, between}
use Rattle.integer.proofs.Arithmetic.{zarith}
use Rattle.integer.proofs.Ranges.{and_left}
use Rattle.backoff.specs.Limits.{order_limit}
use Rattle.backoff.specs.Model.{in_probability, in_backoff}
use Rattle.backoff.specs.Refusal.{row_length, row_words, row_probability, row_backoff}
use Rattle.rows.specs.Table.{probability_at, backoff_at, length_of, place_fits, places_fit}
use Rattle.rows.specs.Good.{GoodRow}
use Rattle.row_fields.specs.Fields.{backoff_fits, field_fault}

-- word places j to n − 1
module _ (t : List ℤ) (i j n : ℕ) where
  places-step : j < n → places_fit t i j (n - j) ≡ place_fits t i j && places_fit t i (j + 1) (n - (j + 1))
  unfolding places_fit
  places-step l = let e : n - j ≡ suc (n - (j + 1)) = omega arith in rw (e, add-one j)

  pub places_fail : j < n → place_fits t i j ≡ false → places_fit t i j (n - j) ≡ false
  places_fail l e = places-step l ∙ ap (λ (b : Bool). b && places_fit t i (j + 1) (n - (j + 1))) e

  pub places_pass : j < n → place_fits t i j ≡ true → places_fit t i j (n - j) ≡ places_fit t i (j + 1) (n - (j + 1))
  places_pass l e = places-step l ∙ ap (λ (b : Bool). b && places_fit t i (j + 1) (n - (j + 1))) e

  pub places-end : n ≤ j → places_fit t i j (n - j) ≡ true
  unfolding places_fit
  places-end l = let e : n - j ≡ 0 = omega arith in rw e

pub backoff_in : (t : List ℤ) (n i : ℕ) → backoff_fits t n i ≡ true → in_backoff (backoff_at t i) ≡ true
unfolding backoff_fits
backoff_in t n i e = and_left (in_backoff (backoff_at t i)) (not (eqb (length_of t i) n) || eq_z (backoff_at t i) (pos 0)) e

-- a back-off of 0 is in range
pub backoff-longest : (t : List ℤ) (n i : ℕ) → length_of t i ≡ n → backoff_fits t n i ≡ eq_z (backoff_at t i) (pos 0)
unfolding backoff_fits
backoff-longest t n i e = rw (eq-eqb (length_of t i) n e) (go (eq_z (backoff_at t i) (pos 0)) refl)
  where
    go : (b : Bool) → eq_z (backoff_at t i) (pos 0) ≡ b → (in_backoff (backoff_at t i) && b) ≡ b
    go true q = let z : backoff_at t i ≡ pos 0 = omega zarith in rw z (unfold in_backoff between in refl)
    go false q = and-false (in_backoff (backoff_at t i))

pub backoff_shorter : (t : List ℤ) (n i : ℕ) → (length_of t i ≡ n → ⊥) → backoff_fits t n i ≡ in_backoff (backoff_at t i)
unfolding backoff_fits
backoff_shorter t n i h = rw (ne_eqb (length_of t i) n h) (and-true (in_backoff (backoff_at t i)))

module _ (t : List ℤ) (n i : ℕ) where
  pub fault_backoff : (length_of t i ≡ 0 → ⊥) → places_fit t i 1 order_limit ≡ true → in_probability (probability_at t i) ≡ true → field_fault t n i ≡ cond (not (backoff_fits t n i)) row_backoff 0
  unfolding field_fault
  fault_backoff a b c = rw (ne_eqb (length_of t i) 0 a, b, c)

-- ---- what no fault says of a row

pub cond-zero : (t : Bool) (f r : ℕ) → 0 < f → cond t f r ≡ 0 → (t ≡ false) × (r ≡ 0)
cond-zero true f r l e = absurd (omega arith)
cond-zero false f r l e = (refl, e)

-- checks 3 to 6, passed
pub record PassedFields (t : List ℤ) (n i : ℕ) : Type 0 where
  pub good : GoodRow t i
  pub probability : in_probability (probability_at t i) ≡ true
  pub backoff : backoff_fits t n i ≡ true

pub passed_fields : (t : List ℤ) (n i : ℕ) → field_fault t n i ≡ 0 → PassedFields t n i
unfolding field_fault
passed_fields t n i e =
    let a = cond-zero (eqb (length_of t i) 0) row_length _ (lit< tt) e in
    let b = cond-zero (not (places_fit t i 1 order_limit)) row_words _ (lit< tt) a.1 in
    let c = cond-zero (not (in_probability (probability_at t i))) row_probability _ (lit< tt) b.1 in
    let d = cond-zero (not (backoff_fits t n i)) row_backoff _ (lit< tt) c.1 in
    record {
      good = record { some = let z = eqb-false (length_of t i) 0 a.0 in omega arith; places = not-false _ b.0 };
      probability = not-false _ c.0;
      backoff = not-false _ d.0;
    }
