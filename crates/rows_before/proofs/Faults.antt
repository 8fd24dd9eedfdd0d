-- Laws of the checks 7 and 8, and of 3 to 8: what each way through them gives, and what a row has that passes them. Assumes nothing.
use mathlib.Core.Path.{◌≡◌, refl, sym, ap, ◌∙◌}
use mathlib.Core.Bool.{Bool, true, false, not, cond, ◌&&◌}
use mathlib.Core.List.{List}
use mathlib.Core.Logic.{⊎_elim}
use Prim.Native.Nat.{ℕ, zero, suc, ◌+◌, ◌*◌, ◌-◌, ◌<◌, ◌≤◌}
use native.Mathlib.Nat.{not-suc-le-zero}
use native.Mathlib.Omega.{arith}
use lib.Dec.{ltb, leb, lit<}
use lib.IntN.{ℤ}
use lib.ListN.{length, take, drop}
use borrow.Author.Tests.{le-leb, lt-leb, lt-ltb, ltb-true, not-false}
use Rattle.integer.proofs.Ranges.{lt_or_ge}
use Rattle.integer.specs.Integer.{or_else}
use Rattle.backoff.specs.Words.{are_words}
use Rattle.backoff.specs.Model.{in_probability}
use Rattle.backoff.specs.Refusal.{row_backoff, row_order, shorter_row}
use Rattle.rows.specs.Table.{rows_of, probability_at, length_of, words_of, words, without_first, last_word}
use Rattle.rows.specs.Order.{precedes}
use Rattle.rows.specs.Good.{GoodRow, Good}
use Rattle.rows.specs.Keys.{row_key}
use Rattle.rows.proofs.Good.{are_words-without_first, are_words-last, precedes-row-key, ascend-key}
use Rattle.row_fields.specs.Fields.{backoff_fits, field_fault}
use Rattle.row_fields.proofs.Fields.{fault_backoff, cond-zero, PassedFields, passed_fields}
use Rattle.rows_before.specs.Faults.{is_after, without_firsts, shorter_listed, order_fault, row_fault}

-- ---- a row's checks, as the code goes through them

module _ (t : List ℤ) (i : ℕ) (g : GoodRow t i) (h : 8 * i + 8 ≤ length t) where
  -- what check 8 asks for beside the row without its last word
  pub are_words-asked : (filling : Bool) → are_words (without_firsts filling t i) ≡ true
  unfolding without_firsts
  are_words-asked false = are_words-without_first t i g h
  are_words-asked true = are_words-last t i g h

  pub asked-words : (filling : Bool) → words_of (take (8 * i + (length_of t i + 1) - (8 * i + cond filling (length_of t i) 2)) (drop (8 * i + cond filling (length_of t i) 2) t)) ≡ without_firsts filling t i
  unfolding without_firsts without_first last_word
  asked-words false = let s = g.some in let e : 8 * i + (length_of t i + 1) - (8 * i + 2) ≡ length_of t i - 1 = omega arith in rw e
  asked-words true = let e : 8 * i + (length_of t i + 1) - (8 * i + length_of t i) ≡ 1 = omega arith in rw e

pub after_first : (t : List ℤ) (i : ℕ) → i ≡ 0 → is_after t i ≡ true
unfolding is_after
after_first t i e = rw e

pub after-key : (t : List ℤ) (i : ℕ) → (i ≡ 0 → ⊥) → Good t i → GoodRow t i → is_after t i ≡ ltb (row_key t (i - 1)) (row_key t i)
unfolding is_after
after-key t zero h g r = absurd (h refl)
after-key t (suc i) h g r = let e : suc i - 1 ≡ i = omega arith in rw e (precedes-row-key t i (suc i) (g.row i (omega arith)) r)

module _ (filling : Bool) (t : List ℤ) (i : ℕ) where
  pub fault_shorter : is_after t i ≡ true → 2 ≤ length_of t i → order_fault filling t i ≡ cond (not (shorter_listed filling t i)) shorter_row 0
  unfolding order_fault
  fault_shorter a m = rw (a, le-leb 2 (length_of t i) m)

  pub fault_none : is_after t i ≡ true → length_of t i < 2 → order_fault filling t i ≡ 0
  unfolding order_fault
  fault_none a m = rw (a, lt-leb 2 (length_of t i) m)

pub or_right : (a b : ℕ) → a ≡ 0 → or_else a b ≡ b
or_right a b e = rw e

-- ---- what no fault says of a row

or_zero : (a b : ℕ) → or_else a b ≡ 0 → (a ≡ 0) × (b ≡ 0)
or_zero zero b e = (refl, e)
or_zero (suc a) b e = absurd (omega arith)

-- checks 3 to 8, passed
pub record PassedRow (filling : Bool) (t : List ℤ) (n i : ℕ) : Type 0 where
  pub fields : PassedFields t n i
  pub after : is_after t i ≡ true
  pub shorter : 2 ≤ length_of t i → shorter_listed filling t i ≡ true

pub passed-row : (filling : Bool) (t : List ℤ) (n i : ℕ) → row_fault filling t n i ≡ 0 → PassedRow filling t n i
unfolding row_fault order_fault
passed-row filling t n i e =
    let f = or_zero (field_fault t n i) (order_fault filling t i) e in
    let a = cond-zero (not (is_after t i)) row_order _ (lit< tt) f.1 in
    let b = cond-zero (leb 2 (length_of t i) && not (shorter_listed filling t i)) shorter_row 0 (lit< tt) a.1 in
    record {
      fields = passed_fields t n i f.0;
      after = not-false _ a.0;
      shorter = λ m. not-false (shorter_listed filling t i) (rw (le-leb 2 (length_of t i) m) at b.0);
    }

-- one row more
last-ascends : (t : List ℤ) (n : ℕ) → Good t n → GoodRow t n → is_after t n ≡ true → (i : ℕ) → i < n → precedes (words t i) (words t n) ≡ true
unfolding is_after
last-ascends t zero g r a i l = absurd (not-suc-le-zero l)
last-ascends t (suc n) g r a i l =
    ⊎_elim
    (λ p.
    let k = ascend-key t (suc n) i n g p (omega arith) in
    let b = ltb-true (row_key t n) (row_key t (suc n)) (sym (precedes-row-key t n (suc n) (g.row n (omega arith)) r) ∙ a) in
    precedes-row-key t i (suc n) (g.row i l) r ∙ lt-ltb (row_key t i) (row_key t (suc n)) (omega arith))
    (λ p. let e : i ≡ n = omega arith in rw e a)
    (lt_or_ge i n)

pub good_more : (t : List ℤ) (n : ℕ) → Good t n → GoodRow t n → is_after t n ≡ true → Good t (n + 1)
good_more t n g r a = record {
  row = λ i l. ⊎_elim (λ p. g.row i p) (λ p. let e : i ≡ n = omega arith in rw e r) (lt_or_ge i n);
  ascend = λ i j l m. ⊎_elim (λ p. g.ascend i j l p) (λ p. let e : j ≡ n = omega arith in rw e (last-ascends t n g r a i (omega arith))) (lt_or_ge j n);
}

-- ---- the other way: what has all this passes

module _ (t : List ℤ) (g : Good t (rows_of t)) where
  pub good-after : (i : ℕ) → i < rows_of t → is_after t i ≡ true
  unfolding is_after
  good-after zero l = refl
  good-after (suc i) l = g.ascend i (suc i) (omega arith) l

pub row_passes : (filling : Bool) (t : List ℤ) (n i : ℕ) → GoodRow t i → in_probability (probability_at t i) ≡ true → backoff_fits t n i ≡ true → is_after t i ≡ true → (2 ≤ length_of t i → shorter_listed filling t i ≡ true) → row_fault filling t n i ≡ 0
unfolding row_fault
row_passes filling t n i g p b a s =
    or_right (field_fault t n i) (order_fault filling t i)
    (fault_backoff t n i (λ z. let l = g.some in omega arith) g.places p ∙ ap (λ (b : Bool). cond (not b) row_backoff 0) b)
    ∙ ⊎_elim
    (λ l. fault_shorter filling t i a l ∙ ap (λ (b : Bool). cond (not b) shorter_row 0) (s l))
    (λ l. fault_none filling t i a (omega arith))
    (lt_or_ge 1 (length_of t i))
