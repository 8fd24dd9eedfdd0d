-- The words of a table's rows, and the sequences that rows are without their first words. Assumes nothing.
use mathlib.Core.Path.{◌≡◌, refl, sym, ap, ◌∙◌}
use mathlib.Core.Logic.{⊎_elim}
use mathlib.Core.Bool.{Bool, true, false}
use mathlib.Core.List.Memᴰ
use mathlib.Core.List.{List, [], ◌∷◌, ◌++◌, reverse, reverse-append, reverse-reverse, head-eq_of_cons-eq, tail-eq_of_cons-eq}
use Prim.Native.Nat.{ℕ, zero, suc, ◌+◌, ◌*◌, ◌≤◌, ◌<◌}
use native.Mathlib.Omega.{arith}
use lib.Dec.{leb}
use lib.ListN.{length, length-append}
use lib.IntN.{ℤ}
use borrow.Author.Tests.{leb-true, le-leb}
use Rattle.integer.proofs.Ranges.{lt_or_ge}
use Rattle.backoff.specs.Words.{are_words}
use Rattle.backoff.proofs.Words.{words-rest}
use Rattle.rows.specs.Table.{words}
use Rattle.rows.specs.Good.{Good}
use Rattle.filled_list.specs.Filled.{rows_from, without_first_words, all_without_first_words}
use Rattle.filled_list.proofs.Ascending.{In, Ascending, none, more}

-- ---- lists

pub snoc_eq : (xs ys : List ℕ) (x y : ℕ) → xs ++ (x ∷ []) ≡ ys ++ (y ∷ []) → (xs ≡ ys) × (x ≡ y)
snoc_eq xs ys x y e =
    (sym (reverse-reverse xs) ∙ ap reverse (tail-eq_of_cons-eq turned) ∙ reverse-reverse ys, head-eq_of_cons-eq turned)
  where
    turned : x ∷ reverse xs ≡ y ∷ reverse ys
    turned = sym (reverse-append xs (x ∷ [])) ∙ ap reverse e ∙ reverse-append ys (y ∷ [])

pub are_words-behind : (us vs : List ℕ) → are_words (us ++ vs) ≡ true → are_words vs ≡ true
are_words-behind [] vs e = e
are_words-behind (u ∷ us) vs e = are_words-behind us vs (words-rest u (us ++ vs) e)

-- ---- one row without its first words

-- ws is vs without its first words, one at least, and has two words or more
pub record Behind (vs ws : List ℕ) : Type 0 where
  pub first : ℕ
  pub front : List ℕ
  pub same : vs ≡ first ∷ (front ++ ws)
  pub two : 2 ≤ length ws

pub without_nil : without_first_words [] ≡ []
unfolding without_first_words
without_nil = refl

module _ (w : ℕ) (ws : List ℕ) where
  pub without_more : 2 ≤ length ws → without_first_words (w ∷ ws) ≡ ws ∷ without_first_words ws
  unfolding without_first_words
  without_more l = rw (le-leb 2 (length ws) l)

  pub without_none : leb 2 (length ws) ≡ false → without_first_words (w ∷ ws) ≡ []
  unfolding without_first_words
  without_none e = rw e

pub in_behind : (vs ws : List ℕ) → In ws (without_first_words vs) → Behind vs ws
in_behind [] ws m = absurd (Memᴰ.not-nil (rw without_nil at m))
in_behind (v ∷ vs) ws m = go (leb 2 (length vs)) refl (in_behind vs ws)
  where
    longer : Behind vs ws → Behind (v ∷ vs) ws
    longer b = record { first = v; front = b.first ∷ b.front; same = ap {B = List ℕ} (λ l. v ∷ l) b.same; two = b.two }

    here : 2 ≤ length vs → (In ws (without_first_words vs) → Behind vs ws) → In ws (vs ∷ without_first_words vs) → Behind (v ∷ vs) ws
    here l ih (Memᴰ.head q) = record { first = v; front = []; same = ap {B = List ℕ} (λ l. v ∷ l) (sym q); two = rw q l }
    here l ih (Memᴰ.tail n) = longer (ih n)

    go : (b : Bool) → leb 2 (length vs) ≡ b → (In ws (without_first_words vs) → Behind vs ws) → Behind (v ∷ vs) ws
    go true e ih = let l = leb-true 2 (length vs) e in here l ih (rw (without_more v vs l) at m)
    go false e ih = absurd (Memᴰ.not-nil (rw (without_none v vs e) at m))

pub behind_in : (front : List ℕ) (v : ℕ) (ws : List ℕ) → 2 ≤ length ws → In ws (without_first_words (v ∷ (front ++ ws)))
behind_in [] v ws l = rw (without_more v ws l) (Memᴰ.head refl)
behind_in (u ∷ front) v ws l = rw (without_more v (u ∷ (front ++ ws)) (omega (arith, length-append front ws))) (Memᴰ.tail (behind_in front u ws l))

-- ---- all rows without their first words

all_in : (rows : List (List ℕ)) (vs ws : List ℕ) → In vs rows → In ws (without_first_words vs) → In ws (all_without_first_words rows)
unfolding all_without_first_words
all_in [] vs ws x'' m = elim x'' [ ]
all_in (us ∷ rows) vs ws (Memᴰ.head q) m = Memᴰ.append_left (all_without_first_words rows) (rw q at m)
all_in (us ∷ rows) vs ws (Memᴰ.tail n) m = Memᴰ.append_right (without_first_words us) (all_in rows vs ws n m)

pub all-has : (rows : List (List ℕ)) (vs ws : List ℕ) → In vs rows → Behind vs ws → In ws (all_without_first_words rows)
all-has rows vs ws m b = all_in rows vs ws m (rw b.same (behind_in b.front b.first ws b.two))

pub all-only : (rows : List (List ℕ)) (ws : List ℕ) → In ws (all_without_first_words rows) → (vs : List ℕ) × In vs rows × Behind vs ws
unfolding all_without_first_words
all-only [] ws m = absurd (Memᴰ.not-nil m)
all-only (vs ∷ rows) ws m =
    ⊎_elim
    (λ n. (vs, Memᴰ.head refl, in_behind vs ws n))
    (λ n. let r = all-only rows ws n in (r.0, Memᴰ.tail r.1, r.2))
    (Memᴰ.append_cases (without_first_words vs) m)

-- not more of them than words

without_length : (ws : List ℕ) → length (without_first_words ws) ≤ length ws
without_length [] = unfold without_first_words in omega arith
without_length (w ∷ ws) = go (leb 2 (length ws)) refl (without_length ws)
  where
    go : (b : Bool) → leb 2 (length ws) ≡ b → length (without_first_words ws) ≤ length ws → length (without_first_words (w ∷ ws)) ≤ suc (length ws)
    go true e ih = rw (without_more w ws (leb-true 2 (length ws) e)) (omega arith)
    go false e ih = rw (without_none w ws e) (omega arith)

pub all-length : (n : ℕ) (rows : List (List ℕ)) → ((ws : List ℕ) → In ws rows → length ws ≤ n) → length (all_without_first_words rows) ≤ n * length rows
unfolding all_without_first_words
all-length n [] h = omega arith
all-length n (ws ∷ rows) h =
    let a = all-length n rows (λ vs m. h vs (Memᴰ.tail m)) in
    let b = h ws (Memᴰ.head refl) in
    let e : n * suc (length rows) ≡ n * length rows + n = omega arith in
    rw e (omega (arith, length-append (without_first_words ws) (all_without_first_words rows), without_length ws))

-- ---- the rows of a table

module _ (t : List ℤ) where
  pub in_rows_from : (i k j : ℕ) → i ≤ j → j < i + k → In (words t j) (rows_from t i k)
  unfolding rows_from
  in_rows_from i zero j l m = absurd (omega arith)
  in_rows_from i (suc k) j l m =
      ⊎_elim (λ p. Memᴰ.tail (in_rows_from (suc i) k j p (omega arith))) (λ p. let e : j ≡ i = omega arith in Memᴰ.head (ap (words t) e)) (lt_or_ge i j)

  pub rows_from-only : (i k : ℕ) (ws : List ℕ) → In ws (rows_from t i k) → (j : ℕ) × (i ≤ j) × (j < i + k) × (words t j ≡ ws)
  unfolding rows_from
  rows_from-only i zero ws m = absurd (Memᴰ.not-nil m)
  rows_from-only i (suc k) ws (Memᴰ.head q) = (i, omega arith, omega arith, sym q)
  rows_from-only i (suc k) ws (Memᴰ.tail m) =
      let r = rows_from-only (suc i) k ws m in
      (r.0, let l = r.1 in omega arith, let l = r.2 in omega arith, r.3)

  pub length-rows_from : (i k : ℕ) → length (rows_from t i k) ≡ k
  unfolding rows_from
  length-rows_from i zero = refl
  length-rows_from i (suc k) = ap suc (length-rows_from (suc i) k)

  pub rows_from-ascends : (n i k : ℕ) → Good t n → i + k ≤ n → Ascending (rows_from t i k)
  unfolding rows_from
  rows_from-ascends n i zero g h = none
  rows_from-ascends n i (suc k) g h =
      more {ws = words t i} {rows = rows_from t (suc i) k}
      (λ vs m. let r = rows_from-only (suc i) k vs m in rw (← r.3) (g.ascend i r.0 r.1 (let l = r.2 in omega arith)))
      (rows_from-ascends n (suc i) k g (omega arith))
