-- Laws of the search by key among good rows: brackets and windows narrowed, and what is found. Assumes nothing.
use Rattle.std.specs.declared.option.Option.TheVariants.{Some, None}
use mathlib.Core.Path.{◌≡◌, refl, sym, ap, ◌∙◌, subst}
use mathlib.Core.Bool.{Bool, true, false, cond}
use mathlib.Core.List.{List}
use mathlib.Core.Logic.{⊎_elim}
use Prim.Native.Nat.{ℕ, zero, suc, ◌+◌, ◌-◌, ◌<◌, ◌≤◌}
use native.Mathlib.Nat.{not-suc-le-zero}
use native.Mathlib.Omega.{arith}
use lib.Dec.{eqb}
use lib.IntN.{ℤ}
use borrow.Author.Tests.{eqb-true, eqb-false}
use Rattle.std.specs.Bool.{then_some}
use Rattle.integer.proofs.Ranges.{lt_or_ge}
use Rattle.rows.specs.Table.{rows_of}
use Rattle.rows.specs.Good.{Good}
use Rattle.rows.specs.Keys.{row_key}
use Rattle.rows.proofs.Good.{ascend-key, good-fewer}
use Rattle.row_search.specs.ByKey.{find_key, Bracket, Window}

pub bracket-start : (t : List ℤ) (k : ℕ) → Bracket t k 0 (rows_of t)
bracket-start t k = record {
  order = omega arith;
  within = omega arith;
  below = λ j l. absurd (not-suc-le-zero l);
  above = λ j l m. absurd (omega arith);
}

pub bracket-end : (t : List ℤ) (k from to : ℕ) → Bracket t k from to → to ≤ from → Bracket t k from from
bracket-end t k from to b l = let e : to ≡ from = omega arith in subst (Bracket t k from) e b

module _ (t : List ℤ) (g : Good t (rows_of t)) where
  pub keys_ascend : (i j : ℕ) → i ≤ j → j < rows_of t → row_key t i ≤ row_key t j
  keys_ascend i j l m =
      ⊎_elim
      (λ p. let k = ascend-key t (rows_of t) i j g p m in omega arith)
      (λ (p : j ≤ i). let e : i ≡ j = omega arith in let f : row_key t i ≡ row_key t j = ap (row_key t) e in omega arith)
      (lt_or_ge i j)

  module _ (k from to middle : ℕ) (b : Bracket t k from to) where
    pub bracket-up : middle < to → row_key t middle < k → Bracket t k (middle + 1) to
    bracket-up l h = record {
      order = omega arith;
      within = b.within;
      below = λ j m. let e = keys_ascend j middle (omega arith) (omega arith) in omega arith;
      above = b.above;
    }

    pub bracket-down : from ≤ middle → middle < to → k ≤ row_key t middle → Bracket t k from middle
    bracket-down l m h = record {
      order = l;
      within = omega arith;
      below = b.below;
      above = λ j p q. let e = keys_ascend middle j p q in omega arith;
    }

  -- half of a window
  module _ (k from size half : ℕ) (l : half + half ≤ size) (n : 0 < size) (h : Window t k from (from + size)) where
    pub window_up : row_key t (from + half) ≤ k → Window t k (from + half) (from + half + (size - half))
    window_up e = record {
      within = let w = h.within in omega arith;
      below = λ j p. let w = h.within in let a = ascend-key t (rows_of t) j (from + half) g p (omega arith) in omega arith;
      above = λ j p q. h.above j (omega arith) q;
    }

    pub window_down : k < row_key t (from + half) → Window t k from (from + (size - half))
    window_down e = record {
      within = let w = h.within in omega arith;
      below = h.below;
      above = λ j p q. let a = keys_ascend (from + half) j (omega arith) q in omega arith;
    }

  pub window_end : (k to : ℕ) → to < rows_of t → k < row_key t to → Window t k 0 to
  window_end k to l e = record {
    within = omega arith;
    below = λ j p. absurd (not-suc-le-zero p);
    above = λ j p q. let a = keys_ascend to j p q in omega arith;
  }

pub window_all : (t : List ℤ) (k : ℕ) → Window t k 0 (rows_of t)
window_all t k = record { within = omega arith; below = λ j p. absurd (not-suc-le-zero p); above = λ j p q. absurd (omega arith) }

-- the search by key
pub find-key_hit : (t : List ℤ) (k n i : ℕ) → Good t n → i < n → row_key t i ≡ k → find_key t k n ≡ Some i
unfolding find_key
find-key_hit t k zero i g l e = absurd (not-suc-le-zero l)
find-key_hit t k (suc n) i g l e =
    go (eqb (row_key t n) k) refl (λ h. find-key_hit t k n i (good-fewer t n (suc n) (omega arith) g) h e)
  where
    go : (b : Bool) → eqb (row_key t n) k ≡ b → (i < n → find_key t k n ≡ Some i) → cond b (Some n) (find_key t k n) ≡ Some i
    go true q ih =
        ⊎_elim
        (λ m. absurd (let u = ascend-key t (suc n) i n g m (omega arith) in let v = eqb-true (row_key t n) k q in omega arith))
        (λ m. ap Some (omega arith))
        (lt_or_ge i n)
    go false q ih = ⊎_elim ih (λ m. let s : i ≡ n = omega arith in absurd (eqb-false (row_key t n) k q (ap (row_key t) (sym s) ∙ e))) (lt_or_ge i n)

find-key_miss : (t : List ℤ) (k n : ℕ) → ((j : ℕ) → j < n → row_key t j ≡ k → ⊥) → find_key t k n ≡ None
unfolding find_key
find-key_miss t k zero h = refl
find-key_miss t k (suc n) h = go (eqb (row_key t n) k) refl (find-key_miss t k n (λ j l. h j (omega arith)))
  where
    go : (b : Bool) → eqb (row_key t n) k ≡ b → find_key t k n ≡ None → cond b (Some n) (find_key t k n) ≡ None
    go true q ih = absurd (h n (omega arith) (eqb-true (row_key t n) k q))
    go false q ih = ih

-- the row at hand is the only one that may have the key
module _ (t : List ℤ) (k i : ℕ) (g : Good t (rows_of t)) (h : Window t k i (i + 1)) where
  window_hit : row_key t i ≡ k → find_key t k (rows_of t) ≡ Some i
  window_hit e = find-key_hit t k (rows_of t) i g (let w = h.within in omega arith) e

  window_miss : (row_key t i ≡ k → ⊥) → find_key t k (rows_of t) ≡ None
  window_miss n =
      find-key_miss t k (rows_of t)
      (λ j l e.
      ⊎_elim
      (λ p. let u = h.below j p in omega arith)
      (λ p. ⊎_elim (λ q. let u = h.above j (omega arith) l in omega arith) (λ (q : j ≤ i). let z : j ≡ i = omega arith in n (ap (row_key t) (sym z) ∙ e)) (lt_or_ge i j))
      (lt_or_ge j i))

  pub window_one : find_key t k (rows_of t) ≡ then_some (eqb (row_key t i) k) i
  window_one = go (eqb (row_key t i) k) refl
    where
      go : (b : Bool) → eqb (row_key t i) k ≡ b → find_key t k (rows_of t) ≡ then_some b i
      go true e = window_hit (eqb-true (row_key t i) k e)
      go false e = window_miss (eqb-false (row_key t i) k e)

pub window_empty : (t : List ℤ) (k from to : ℕ) → Window t k from to → to ≤ from → find_key t k (rows_of t) ≡ None
window_empty t k from to h o =
    find-key_miss t k (rows_of t)
    (λ j l e. ⊎_elim (λ p. let u = h.below j p in omega arith) (λ (p : from ≤ j). let u = h.above j (omega arith) l in omega arith) (lt_or_ge j from))
