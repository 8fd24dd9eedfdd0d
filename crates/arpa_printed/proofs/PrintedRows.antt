-- The rows of an accepted list as they are printed: section by section they are all rows in their order, each is its words with its numbers, and
-- each word has a one-word row. Assumes nothing.
use mathlib.Core.Path.{◌≡◌, refl, sym, ap, ◌∙◌}
use mathlib.Core.Logic.{⊎_elim}
use mathlib.Core.Bool.{Bool, true, false, cond}
use mathlib.Core.List.{List, [], ◌∷◌, ◌++◌, map}
use Prim.Native.Nat.{ℕ, zero, suc, ◌+◌, ◌*◌, ◌-◌, ◌<◌, ◌≤◌}
use native.Mathlib.Omega.{arith}
use lib.Dec.{eqb}
use lib.IntN.{ℤ, pos}
use lib.ListN.{length, get_or, take, drop, length-append, get_or-map, get_or-append}
use lib.Seq.{ext_get_or, get_or-append-add}
use borrow.Author.Tests.{eq-eqb, ne_eqb, eqb-true}
use Rattle.integer.specs.Integer.{between, up_to}
use Rattle.integer.proofs.Arithmetic.{zarith, abs}
use Rattle.integer.proofs.Ranges.{lt_or_ge, between-low, up_to_in, up_to_out}
use Rattle.backoff.specs.Limits.{order_limit, word_limit}
use Rattle.backoff.specs.NineNumbers.{padded}
use Rattle.backoff.specs.Refusal.{Accepted}
use Rattle.backoff.proofs.NineNumbers.{length-padded}
use Rattle.rows.specs.Table.{rows_of, field, length_of, word_of, words_of, words, without_first, without_last}
use Rattle.rows.specs.Good.{GoodRow}
use Rattle.rows.proofs.Table.{row_in, words-length, words_cons, words_snoc}
use Rattle.rows.proofs.Good.{place_range, place_of}
use Rattle.list.specs.Check.{verdict}
use Rattle.list.proofs.Check.{first-listed, last-listed}
use Rattle.row_codes.specs.Rows.{row_at}
use Rattle.row_codes.proofs.Rows.{row_field, row-length}
use Rattle.row_order.specs.RowOrder.{rows_at}
use Rattle.arpa_sections.specs.Sections.{row_of}
use Rattle.arpa_reading.proofs.RowsHeld.{get_or-padded}
use Rattle.arpa_printed.specs.Printed.{rows_with}

-- ---- section by section

-- k numbers from i on
abbrev pub count_up : ℕ → ℕ → List ℕ
count_up i zero = []
count_up i (suc k) = i ∷ count_up (suc i) k

pub count-rows : (t : List ℤ) (i k : ℕ) → map (row_at t) (count_up i k) ≡ rows_at t i k
unfolding rows_at
count-rows t i zero = refl
count-rows t i (suc k) = ap (λ (l : List (List ℤ)). row_at t i ∷ l) (count-rows t (suc i) k)

pub count-length : (i k : ℕ) → length (count_up i k) ≡ k
count-length i zero = refl
count-length i (suc k) = ap suc (count-length (suc i) k)

-- the rows of the c lengths from m on, among the k rows from row i on
abbrev pub section_rows : List ℤ → ℕ → ℕ → ℕ → ℕ → List ℕ
section_rows t i k m zero = []
section_rows t i k m (suc c) = rows_with m t i k ++ section_rows t i k (suc m) c

module _ (t : List ℤ) where
  none_with : (m i k : ℕ) → ((j : ℕ) → i ≤ j → j < i + k → m < length_of t j) → rows_with m t i k ≡ []
  unfolding rows_with
  none_with m i zero h = refl
  none_with m i (suc k) h =
      let l = h i (omega arith) (omega arith) in
      rw (ne_eqb (length_of t i) m (λ e. omega arith)) (none_with m (suc i) k (λ j a b. h j (omega arith) (omega arith)))

  shorter_left : (m c i k : ℕ) → length_of t i < m → section_rows t i (suc k) m c ≡ section_rows t (suc i) k m c
  unfolding rows_with
  shorter_left m zero i k l = refl
  shorter_left m (suc c) i k l =
      rw (ne_eqb (length_of t i) m (λ e. omega arith)) (ap (λ (r : List ℕ). rows_with m t (suc i) k ++ r) (shorter_left (suc m) c i k (omega arith)))

  row_first : (m c i k : ℕ) → ((j : ℕ) → i ≤ j → j < i + suc k → length_of t i ≤ length_of t j) → m ≤ length_of t i → length_of t i < m + c
      → section_rows t i (suc k) m c ≡ i ∷ section_rows t (suc i) k m c
  unfolding rows_with
  row_first m zero i k h a b = absurd (omega arith)
  row_first m (suc c) i k h a b =
      ⊎_elim
      (λ l.
      rw (ne_eqb (length_of t i) m (λ e. omega arith), none_with m (suc i) k (λ j x y. let z = h j (omega arith) (omega arith) in omega arith))
      (row_first (suc m) c i k h l (omega arith)))
      (λ l. rw (eq-eqb (length_of t i) m (omega arith)) (ap (λ (r : List ℕ). i ∷ (rows_with m t (suc i) k ++ r)) (shorter_left (suc m) c i k (omega arith))))
      (lt_or_ge m (length_of t i))

  no_rows : (m c i : ℕ) → section_rows t i 0 m c ≡ []
  unfolding rows_with
  no_rows m zero i = refl
  no_rows m (suc c) i = no_rows (suc m) c i

  -- rows whose lengths ascend
  pub section_rows_lem : (m c i k : ℕ) → ((j l : ℕ) → i ≤ j → j ≤ l → l < i + k → length_of t j ≤ length_of t l)
      → ((j : ℕ) → i ≤ j → j < i + k → (m ≤ length_of t j) × (length_of t j < m + c)) → section_rows t i k m c ≡ count_up i k
  section_rows_lem m c i zero h r = no_rows m c i
  section_rows_lem m c i (suc k) h r =
      let b = r i (omega arith) (omega arith) in
      row_first m c i k (λ j x y. h i j (omega arith) x y) b.0 b.1
      ∙ ap (λ (l : List ℕ). i ∷ l) (section_rows_lem m c (suc i) k (λ j l x y z. h j l (omega arith) y (omega arith)) (λ j x y. r j (omega arith) (omega arith)))

  -- the first rows are those of one word
  pub one-word-rows : (i a k : ℕ) → a ≤ k → ((j : ℕ) → i ≤ j → j < i + a → length_of t j ≡ 1) → ((j : ℕ) → i + a ≤ j → j < i + k → 2 ≤ length_of t j)
      → rows_with 1 t i k ≡ count_up i a
  unfolding rows_with
  one-word-rows i zero k l h g = none_with 1 i k (λ j x y. g j (omega arith) y)
  one-word-rows i (suc a) zero l h g = absurd (omega arith)
  one-word-rows i (suc a) (suc k) l h g =
      rw (eq-eqb (length_of t i) 1 (h i (omega arith) (omega arith)))
      (ap (λ (r : List ℕ). i ∷ r) (one-word-rows (suc i) a k (omega arith) (λ j x y. h j (omega arith) (omega arith)) (λ j x y. g j (omega arith) (omega arith))))

-- rows of one length that lie in the table
abbrev pub AllOf : List ℤ → ℕ → List ℕ → Type 0
AllOf t m [] = Unit {0}
AllOf t m (i ∷ is) = (i < rows_of t) × (length_of t i ≡ m) × AllOf t m is

pub all_of_length : (t : List ℤ) (m i k : ℕ) → i + k ≤ rows_of t → AllOf t m (rows_with m t i k)
unfolding rows_with
all_of_length t m i zero l = tt
all_of_length t m i (suc k) l = go (eqb (length_of t i) m) refl (all_of_length t m (suc i) k (omega arith))
  where
    go : (b : Bool) → eqb (length_of t i) m ≡ b → AllOf t m (rows_with m t (suc i) k) → AllOf t m (cond b (i ∷ rows_with m t (suc i) k) (rows_with m t (suc i) k))
    go true e r = (omega arith, eqb-true (length_of t i) m e, r)
    go false e r = r

-- ---- a row by its words

module _ (t : List ℤ) (i : ℕ) (g : GoodRow t i) (h : 8 * i + 8 ≤ length t) where
  length-field : pos (length (words t i)) ≡ field t i 0
  unfolding length_of
  length-field = ap pos (words-length t i h) ∙ go (between (pos 0) (pos order_limit) (field t i 0)) refl
    where
      some : 0 < up_to (pos order_limit) (field t i 0)
      some = g.some

      go : (b : Bool) → between (pos 0) (pos order_limit) (field t i 0) ≡ b → pos (up_to (pos order_limit) (field t i 0)) ≡ field t i 0
      go true e =
          let low = between-low (pos 0) (pos order_limit) (field t i 0) e in
          ap pos (up_to_in (pos order_limit) (field t i 0) e) ∙ omega (zarith, abs (field t i 0))
      go false e = absurd (omega (arith, up_to_out (pos order_limit) (field t i 0) e, some))

  word-field : (q : ℕ) → q < order_limit → get_or (map pos (words t i)) q (pos 0) ≡ field t i (q + 1)
  unfolding words words_of up_to between
  word-field q l =
      let zs : List ℤ = take (length_of t i) (drop (8 * i + 1) t) in
      let e = place_range t i g (q + 1) (omega arith) (omega arith) in
      let low = between-low (pos 0) (pos word_limit) (field t i (q + 1)) e in
      get_or-map pos (words_of zs) q 0
      ∙ ap pos (get_or-map (λ (z : ℤ). word_of z) zs q (pos 0) ∙ ap (λ (z : ℤ). word_of z) (place_of t i g q l) ∙ up_to_in (pos word_limit) (field t i (q + 1)) e)
      ∙ omega (zarith, abs (field t i (q + 1)))

  pub row_of-words : row_of (words t i) (field t i 6) (field t i 7) ≡ row_at t i
  unfolding row_of
  row_of-words =
      let e = row-length t i h in
      let n = length-padded order_limit (map pos (words t i)) in
      ext_get_or (pos 0) (row_of (words t i) (field t i 6) (field t i 7)) (row_at t i) (rw (length-append, n) (sym e))
      (λ j l. same j (omega (arith, simp (length-append, length-padded) at l)) ∙ sym (row_field t i j (omega (arith, simp (length-append, length-padded) at l))))
    where
      ws : List ℤ
      ws = padded order_limit (map pos (words t i))

      place : (j : ℕ) → j < 7 → get_or (ws ++ (field t i 6 ∷ field t i 7 ∷ [])) j (pos 0) ≡ field t i (j + 1)
      place j l =
          let n = length-padded order_limit (map pos (words t i)) in
          ⊎_elim
          (λ (k : j < 5). get_or-append ws (field t i 6 ∷ field t i 7 ∷ []) (pos 0) j (omega arith) ∙ get_or-padded order_limit j (map pos (words t i)) k ∙ word-field j k)
          (λ (k : 5 ≤ j).
          let e : j ≡ length ws + (j - 5) = omega arith in
          ap (λ (x : ℕ). get_or (ws ++ (field t i 6 ∷ field t i 7 ∷ [])) x (pos 0)) e ∙ get_or-append-add ws (field t i 6 ∷ field t i 7 ∷ []) (j - 5) (pos 0) ∙ last (j - 5) j (omega arith) (omega arith))
          (lt_or_ge j 5)
        where
          last : (q j : ℕ) → q < 2 → j ≡ q + 5 → get_or (field t i 6 ∷ field t i 7 ∷ []) q (pos 0) ≡ field t i (j + 1)
          last zero j l e = ap (λ (x : ℕ). field t i (x + 1)) (sym e)
          last (suc zero) j l e = ap (λ (x : ℕ). field t i (x + 1)) (sym e)
          last (suc (suc q)) j l e = absurd (omega arith)

      same : (j : ℕ) → j < 8 → get_or (row_of (words t i) (field t i 6) (field t i 7)) j (pos 0) ≡ field t i j
      same zero l = length-field
      same (suc j) l = place j (omega arith) ∙ ap (field t i) (omega arith)

-- ---- the words of a row

-- words from 1 to v
abbrev pub AllKnown : ℕ → List ℕ → Type 0
AllKnown v [] = Unit {0}
AllKnown v (w ∷ ws) = (1 ≤ w) × (w ≤ v) × AllKnown v ws

first-known : (v w x : ℕ) (ws us : List ℕ) → w ∷ ws ≡ us ++ (x ∷ []) → 1 ≤ length us → AllKnown v us → (1 ≤ w) × (w ≤ v)
first-known v w x ws [] e l k = absurd (omega arith)
first-known v w x ws (u ∷ us) e l k =
    let f : w ≡ u = cc in
    let a = k.0 in
    let b = k.1 in
    (omega arith, omega arith)

module _ (t : List ℤ) (a : verdict t ≡ Accepted) (v : ℕ) (ones : (i : ℕ) → i < v → words t i ≡ suc i ∷ [])
    (longer : (i : ℕ) → v ≤ i → i < rows_of t → 2 ≤ length_of t i) where
  known-row : (i : ℕ) → i < rows_of t → ((j : ℕ) → j < i → AllKnown v (words t j)) → AllKnown v (words t i)
  known-row i l shorter = ⊎_elim (λ (m : i < v). rw (ones i m) (omega arith, m, tt)) (λ m. long m) (lt_or_ge i v)
    where
      long : v ≤ i → AllKnown v (words t i)
      long m =
          let n = longer i m l in
          let h = row_in t i l in
          let f = first-listed t a i l n in
          let g = last-listed t a i l n in
          let c = words_cons t i h (omega arith) in
          let s = words_snoc t i h (omega arith) in
          let size : length (without_last t i ++ (word_of (field t i (length_of t i)) ∷ [])) ≡ length_of t i = ap length (sym s) ∙ words-length t i h in
          let first =
          first-known v (word_of (field t i 1)) (word_of (field t i (length_of t i))) (without_first t i) (without_last t i) (sym c ∙ s)
          (omega (arith, simp length-append at size)) (rw g.2 at (shorter g.0 g.1)) in
          rw c (first.0, first.1, rw f.2 at (shorter f.0 f.1))

  known-below : (b i : ℕ) → i < b → i < rows_of t → AllKnown v (words t i)
  known-below zero i k l = absurd (omega arith)
  known-below (suc b) i k l = known-row i l (λ j m. known-below b j (omega arith) (omega arith))

  -- each word of a row has a one-word row
  pub words-known : (i : ℕ) → i < rows_of t → AllKnown v (words t i)
  words-known i l = known-below (suc i) i (omega arith) l
