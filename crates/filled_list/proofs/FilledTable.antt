-- A table of filled rows reads back: its rows are these sequences with their p and b, and the rows of the filled list are good rows. Assumes nothing.
use mathlib.Core.Path.{◌≡◌, refl, sym, ap, ◌∙◌}
use mathlib.Core.Logic.{⊎_elim}
use mathlib.Core.Bool.{true}
use mathlib.Core.List.Memᴰ
use mathlib.Core.List.{List, [], ◌∷◌}
use Prim.Native.Nat.{ℕ, zero, suc, ◌+◌, ◌*◌, ◌≤◌, ◌<◌}
use native.Mathlib.Omega.{arith}
use lib.ListN.{length, get_or, get_or-eq_default, get_or-append}
use lib.IntN.{ℤ, pos}
use borrow.Author.Tests.{le-leb, lt-leb}
use Rattle.integer.specs.Integer.{between}
use Rattle.integer.proofs.Arithmetic.{zarith}
use Rattle.integer.proofs.Ranges.{lt_or_ge, and_both, between-yes}
use Rattle.backoff.specs.Limits.{order_limit, word_limit}
use Rattle.backoff.specs.Words.{are_words}
use Rattle.backoff.specs.Refusal.{Accepted}
use Rattle.backoff.proofs.Words.{first_some, first_limit, words-rest}
use Rattle.rows.specs.Table.{rows_of, field, probability_at, backoff_at, length_of, words, row, place_fits, places_fit}
use Rattle.rows.specs.Good.{GoodRow, Good}
use Rattle.rows.proofs.Table.{row_in, words-length, length_limit}
use Rattle.rows.proofs.Rows.{row_words_lem, words_back, field_later, words_later}
use Rattle.row_search.specs.Search.{find_in}
use Rattle.list.specs.Check.{verdict_for}
use Rattle.list.proofs.Check.{checked-good}
use Rattle.filled_list.specs.Filled.{filled_probability, filled_backoff, filled_row, filled_rows, table_of, filled_table}
use Rattle.filled_list.proofs.Ascending.{In, in_at, place_of, ascends-at}
use Rattle.filled_list.proofs.FilledRows.{EndOf, filled_in_end, end-words, end-some, filled-ascends}

-- ---- a row of words fits its places

word-between : (ws : List ℕ) (q : ℕ) → are_words ws ≡ true → q < length ws → between (pos 1) (pos word_limit) (pos (get_or ws q 0)) ≡ true
word-between [] q e l = absurd (omega arith)
word-between (w ∷ ws) zero e l =
    let s = first_some w ws e in
    let h = first_limit w ws e in
    between-yes (pos 1) (pos word_limit) (pos w) (omega zarith) (omega zarith)
word-between (w ∷ ws) (suc q) e l = word-between ws q (words-rest w ws e) (omega arith)

all-places : (t : List ℤ) (i j k : ℕ) → ((q : ℕ) → j ≤ q → q < j + k → place_fits t i q ≡ true) → places_fit t i j k ≡ true
unfolding places_fit
all-places t i j zero h = refl
all-places t i j (suc k) h =
    and_both (place_fits t i j) (places_fit t i (suc j) k) (h j (omega arith) (omega arith)) (all-places t i (suc j) k (λ q l m. h q (omega arith) (omega arith)))

-- row i of t is that of these words
module _ (t : List ℤ) (i : ℕ) (ws : List ℕ) (p b : ℤ) (e : are_words ws ≡ true) (size : length_of t i ≡ length ws) (has : (j : ℕ) → j < 8 → field t i j ≡ get_or (row ws p b) j (pos 0)) where
  word-place : (q : ℕ) → q < order_limit → field t i (suc q) ≡ pos (get_or ws q 0)
  word-place zero l = has 1 (omega arith)
  word-place (suc zero) l = has 2 (omega arith)
  word-place (suc (suc zero)) l = has 3 (omega arith)
  word-place (suc (suc (suc zero))) l = has 4 (omega arith)
  word-place (suc (suc (suc (suc zero)))) l = has 5 (omega arith)
  word-place (suc (suc (suc (suc (suc q))))) l = absurd (omega arith)

  place-fits : (j : ℕ) → 1 ≤ j → j < 1 + order_limit → place_fits t i j ≡ true
  unfolding place_fits
  place-fits zero s l = absurd (omega arith)
  place-fits (suc q) s l =
      ⊎_elim
      (λ m. rw (le-leb (suc q) (length_of t i) (omega arith), word-place q (omega arith)) (word-between ws q e m))
      (λ m. rw (lt-leb (suc q) (length_of t i) (omega arith), word-place q (omega arith), get_or-eq_default ws 0 m))
      (lt_or_ge q (length ws))

  good-row : 0 < length ws → GoodRow t i
  good-row s = record { some = rw size s; places = all-places t i 1 order_limit place-fits }

-- ---- a table of filled rows

module _ (t : List ℤ) where
  -- rows that read back
  abbrev Readable : List (List ℕ) → Type 0
  Readable rows = (ws : List ℕ) → In ws rows → (length ws ≤ order_limit) × (are_words ws ≡ true)

  -- row i of T is the filled row of ws
  pub record StandsAt (T : List ℤ) (i : ℕ) (ws : List ℕ) : Type 0 where
    pub same : words T i ≡ ws
    pub has : (j : ℕ) → j < 8 → field T i j ≡ get_or (filled_row t ws) j (pos 0)

  length-table_of : (rows : List (List ℕ)) → length (table_of t rows) ≡ 8 * length rows
  unfolding table_of filled_row
  length-table_of [] = refl
  length-table_of (ws ∷ rows) = omega (arith, length-table_of rows)

  rows-table_of : (rows : List (List ℕ)) → rows_of (table_of t rows) ≡ length rows
  unfolding rows_of
  rows-table_of rows = rw (length-table_of rows) (omega arith)

  first_stands : (ws : List ℕ) (rows : List (List ℕ)) → length ws ≤ order_limit → are_words ws ≡ true → StandsAt (table_of t (ws ∷ rows)) 0 ws
  unfolding table_of filled_row field
  first_stands ws rows h e = record {
    same = row_words_lem ws _ _ (table_of t rows) h ∙ words_back ws e;
    has = λ j l. let z : 8 * 0 + j ≡ j = omega arith in rw z (get_or-append (filled_row t ws) (table_of t rows) (pos 0) j l);
  }

  later_stands : (vs : List ℕ) (rows : List (List ℕ)) (i : ℕ) (ws : List ℕ) → StandsAt (table_of t rows) i ws → StandsAt (table_of t (vs ∷ rows)) (suc i) ws
  unfolding table_of filled_row
  later_stands vs rows i ws s = record {
    same = words_later vs _ _ (table_of t rows) i ∙ s.same;
    has = λ j l. field_later vs _ _ (table_of t rows) i j ∙ s.has j l;
  }

  stands : (rows : List (List ℕ)) → Readable rows → (i : ℕ) → i < length rows → StandsAt (table_of t rows) i (get_or rows i [])
  stands [] r i l = absurd (omega arith)
  stands (ws ∷ rows) r zero l = let h = r ws (Memᴰ.head refl) in first_stands ws rows h.0 h.1
  stands (ws ∷ rows) r (suc i) l = later_stands ws rows i (get_or rows i []) (stands rows (λ vs m. r vs (Memᴰ.tail m)) i (omega arith))

  module _ (T : List ℤ) (i : ℕ) (ws : List ℕ) (s : StandsAt T i ws) where
    pub stands_probability : probability_at T i ≡ filled_probability t ws (find_in t ws)
    unfolding filled_row
    stands_probability = s.has 6 (omega arith)

    pub stands_backoff : backoff_at T i ≡ filled_backoff t (find_in t ws)
    unfolding filled_row
    stands_backoff = s.has 7 (omega arith)

    module _ (l : i < rows_of T) where
      stands_length : length_of T i ≡ length ws
      stands_length = sym (words-length T i (row_in T i l)) ∙ ap length s.same

      stands_good : are_words ws ≡ true → 0 < length ws → GoodRow T i
      unfolding filled_row
      stands_good e n = good-row T i ws _ _ e stands_length s.has n

-- ---- the filled list

module _ (t : List ℤ) (g : Good t (rows_of t)) where
  abbrev T : List ℤ
  T = filled_table t

  abbrev rows : List (List ℕ)
  rows = filled_rows t

  pub filled-length : length T ≡ 8 * length rows
  unfolding filled_table
  filled-length = length-table_of t rows

  pub filled-rows : rows_of T ≡ length rows
  unfolding filled_table
  filled-rows = rows-table_of t rows

  readable : Readable t rows
  readable ws m =
      let e = filled_in_end t ws m in
      (let s = (end-some t g ws e).1 in let h = length_limit t e.at in omega arith, end-words t g ws e)

  -- row i of the filled table is the filled row of the i-th sequence
  filled_stands : (i : ℕ) → i < rows_of T → StandsAt t T i (get_or rows i [])
  unfolding filled_table
  filled_stands i l = stands t rows readable i (omega (arith, filled-rows))

  pub filled-end : (i : ℕ) → i < rows_of T → EndOf t (words T i)
  filled-end i l = rw (filled_stands i l).same (filled_in_end t (get_or rows i []) (in_at rows i (omega (arith, filled-rows))))

  -- and stands for its own words
  pub filled-own : (i : ℕ) → i < rows_of T → StandsAt t T i (words T i)
  filled-own i l = let s = filled_stands i l in record { same = refl; has = λ j m. s.has j m ∙ ap (λ (ws : List ℕ). get_or (filled_row t ws) j (pos 0)) (sym s.same) }

  pub filled-place : (ws : List ℕ) → In ws rows → (i : ℕ) × (i < rows_of T) × (words T i ≡ ws)
  filled-place ws m =
      let p = place_of rows ws m in
      let l : p.0 < rows_of T = omega (arith, filled-rows, p.1) in
      (p.0, l, (filled_stands p.0 l).same ∙ p.2)

  pub filled-good : Good T (rows_of T)
  filled-good = record {
    row = λ i l. let e = filled-end i l in stands_good t T i (words T i) (filled-own i l) l (end-words t g (words T i) e) (end-some t g (words T i) e).0;
    ascend = λ i j l m.
        rw ((filled_stands i (omega arith)).same, (filled_stands j m).same)
        (ascends-at rows (filled-ascends t g) i j l (omega (arith, filled-rows)));
  }

pub filled-checked : (t : List ℤ) → verdict_for true t ≡ Accepted → Good (filled_table t) (rows_of (filled_table t))
filled-checked t a = filled-good t (checked-good true t a)
