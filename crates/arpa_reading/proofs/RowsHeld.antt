-- Laws of the rows in the table once the lines are read: the table without the index, its rows one by one, and that they can be sorted. Assumes nothing.
use mathlib.Core.Path.{◌≡◌, refl, sym, ap, ap₂, subst, ◌∙◌}
use mathlib.Core.Logic.{inl, inr, ⊎_elim}
use mathlib.Core.Bool.{Bool, true, false, cond}
use mathlib.Core.List.{List, [], ◌∷◌, ◌++◌, map, Memᴰ}
use Prim.Native.Nat.{ℕ, zero, suc, ◌+◌, ◌*◌, ◌-◌, ◌/◌, ◌%◌, ◌<◌, ◌≤◌}
use native.Mathlib.Omega.{arith}
use lib.Dec.{lit<, lit≤}
use lib.IntN.{ℤ, pos}
use lib.ListN.{length, get_or, take, drop, set, replicate, length-set, get_or-append, get_or-eq_default}
use lib.Seq.{ext_get_or, get_or-append-add, take_at, drop_at}
use borrow.Author.Tests.{le-leb, lt-leb}
use Rattle.integer.proofs.Arithmetic.{zarith}
use Rattle.integer.proofs.Ranges.{lt_or_ge, between-yes, up_to_in}
use Rattle.integer.proofs.Items.{get_or_in}
use Rattle.backoff.specs.Limits.{order_limit, row_limit, word_limit}
use Rattle.backoff.specs.NineNumbers.{padded}
use Rattle.backoff.proofs.NineNumbers.{length-padded}
use Rattle.backoff.specs.Refusal.{table_length}
use Rattle.backoff.specs.Refusal.{Refused}
use Rattle.rows.specs.Table.{rows_of, field, length_of, place_fits, places_fit}
use Rattle.rows.specs.Good.{GoodRow}
use Rattle.rows.proofs.Table.{field_stored, field-kept}
use Rattle.list.specs.Check.{table_fits, verdict_for}
use Rattle.list.proofs.Check.{fitting_table, verdict-refused}
use Rattle.row_codes.specs.Rows.{row_at}
use Rattle.row_codes.proofs.Rows.{row_field, row-length}
use Rattle.row_order.specs.RowOrder.{rows_at, joined, insert_by, sort_by, row_before, list_order}
use Rattle.row_order.specs.Sorting.{Numbered}
use Rattle.row_order.proofs.Sorts.{sort_from}
use Rattle.row_order.proofs.Rows.{row_of-member}
use Rattle.word_index.specs.Index.{cleared}
use Rattle.word_index.proofs.Indexes.{cleared-length, cleared-head, cleared-rows}
use Rattle.arpa_sections.specs.Sections.{Reading, row_of}
use Rattle.arpa_sections.specs.Held.{TableHeld, FreeRow, RowSound}
use Rattle.arpa_lines.proofs.JoinedRows.{Eights, sound_eights, joined_length}
use Rattle.arpa_reading.specs.Outcome.{ordered}
use Rattle.arpa_reading.specs.Held.{Ordering}

-- ---- padded lists
pub get_or-padded : (n q : ℕ) (xs : List ℤ) → q < n → get_or (padded n xs) q (pos 0) ≡ get_or xs q (pos 0)
unfolding padded
get_or-padded zero q xs l = absurd (omega arith)
get_or-padded (suc n) zero [] l = refl
get_or-padded (suc n) zero (x ∷ xs) l = refl
get_or-padded (suc n) (suc q) [] l = get_or-padded n q [] (omega arith)
get_or-padded (suc n) (suc q) (x ∷ xs) l = get_or-padded n q xs (omega arith)

padded-field : (n : ℕ) (xs : List ℤ) (i j : ℕ) → 8 * i + j < n → field (padded n xs) i j ≡ field xs i j
unfolding field
padded-field n xs i j l = get_or-padded n (8 * i + j) xs l

pub padded-zeros : (n : ℕ) (xs : List ℤ) → length xs ≤ n → padded n xs ≡ xs ++ replicate (n - length xs) (pos 0)
unfolding padded
padded-zeros zero [] l = refl
padded-zeros zero (x ∷ xs) l = absurd (omega arith)
padded-zeros (suc n) [] l = let e : n - 0 ≡ n = omega arith in let f : suc n - 0 ≡ suc n = omega arith in rw f (ap (λ (l : List ℤ). pos 0 ∷ l) (padded-zeros n [] (omega arith) ∙ rw e refl))
padded-zeros (suc n) (x ∷ xs) l = let e : suc n - suc (length xs) ≡ n - length xs = omega arith in rw e (ap (λ (l : List ℤ). x ∷ l) (padded-zeros n xs (omega arith)))

-- ---- a table without the index
cleared-link : (t : List ℤ) (n k : ℕ) → k < n → 8 * n ≤ length t → field (cleared t n) k 3 ≡ pos 0
unfolding cleared
cleared-link t zero k l r = absurd (omega arith)
cleared-link t (suc n) k l r =
    ⊎_elim
    (λ (p : k < n). field-kept (set (cleared t n) (8 * n + 2) (pos 0)) n 3 (pos 0) k 3 (λ z. absurd (omega arith)) ∙ field-kept (cleared t n) n 2 (pos 0) k 3 (λ z. absurd (omega arith)) ∙ cleared-link t n k p (omega arith))
    (λ (p : n ≤ k).
    let e : k ≡ n = omega arith in
    let f = cleared-length t n in
    rw e (field_stored (set (cleared t n) (8 * n + 2) (pos 0)) n 3 (pos 0) (rw length-set (omega arith))))
    (lt_or_ge k n)

cleared-behind : (t : List ℤ) (n k j : ℕ) → n ≤ k → j < 8 → field (cleared t n) k j ≡ field t k j
unfolding cleared
cleared-behind t zero k j l m = refl
cleared-behind t (suc n) k j l m =
    field-kept (set (cleared t n) (8 * n + 2) (pos 0)) n 3 (pos 0) k j (λ z. absurd (omega arith))
    ∙ field-kept (cleared t n) n 2 (pos 0) k j (λ z. absurd (omega arith))
    ∙ cleared-behind t n k j (omega arith) m

module _ (t : List ℤ) (rows : List (List ℤ)) (ones : ℕ) (room : 8 * ones ≤ length t) (held : TableHeld t rows ones) (free : (i : ℕ) → i < ones → FreeRow rows i) where
  cleared-field : (i j : ℕ) → j < 8 → field (cleared t ones) i j ≡ field (joined rows) i j
  cleared-field i j l =
      ⊎_elim
      (λ (p : i < ones).
      ⊎_elim
      (λ (q : j < 2). (cleared-rows t ones).before i j q ∙ held.same i j l (inr (inl q)))
      (λ (q : 2 ≤ j).
      ⊎_elim
      (λ (u : j < 4).
      ⊎_elim
      (λ (v : j < 3). let e : j ≡ 2 = omega arith in rw e (cleared-head t ones i p room ∙ sym (free i p).0))
      (λ (v : 3 ≤ j). let e : j ≡ 3 = omega arith in rw e (cleared-link t ones i p room ∙ sym (free i p).1))
      (lt_or_ge j 3))
      (λ (u : 4 ≤ j). (cleared-rows t ones).behind i j u l ∙ held.same i j l (inr (inr u)))
      (lt_or_ge j 4))
      (lt_or_ge j 2))
      (λ (p : ones ≤ i). cleared-behind t ones i j p l ∙ held.same i j l (inl p))
      (lt_or_ge i ones)

  pub cleared-held : cleared t ones ≡ padded (length t) (joined rows)
  unfolding field
  cleared-held =
      ext_get_or (pos 0) (cleared t ones) (padded (length t) (joined rows)) (cleared-length t ones ∙ sym (length-padded (length t) (joined rows)))
      (λ q l.
      let e = cleared-length t ones in
      let a : 8 * (q / 8) + q % 8 ≡ q = omega arith in
      subst (λ (k : ℕ). get_or (cleared t ones) k (pos 0) ≡ get_or (joined rows) k (pos 0)) a (cleared-field (q / 8) (q % 8) (omega arith)) ∙ sym (get_or-padded (length t) q (joined rows) (omega arith)))

-- ---- the rows one by one
joined-field : (rows : List (List ℤ)) (i j : ℕ) → Eights rows → i < length rows → j < 8 → field (joined rows) i j ≡ get_or (get_or rows i []) j (pos 0)
unfolding joined field
joined-field [] i j h l m = absurd (omega arith)
joined-field (row ∷ rows) zero j h l m =
    let e = h row (Memᴰ.head refl) in
    let z : 8 * 0 + j ≡ j = omega arith in
    rw z (get_or-append row (joined rows) (pos 0) j (omega arith))
joined-field (row ∷ rows) (suc i) j h l m =
    let e = h row (Memᴰ.head refl) in
    let z : 8 * suc i + j ≡ length row + (8 * i + j) = omega arith in
    ap (λ (k : ℕ). get_or (row ++ joined rows) k (pos 0)) z ∙ get_or-append-add row (joined rows) (8 * i + j) (pos 0) ∙ joined-field rows i j (λ r k. h r (Memᴰ.tail k)) (omega arith) m

get_or-pos : (numbers : List ℕ) (j : ℕ) → get_or (map pos numbers) j (pos 0) ≡ pos (get_or numbers j 0)
get_or-pos [] zero = refl
get_or-pos [] (suc j) = refl
get_or-pos (k ∷ numbers) zero = refl
get_or-pos (k ∷ numbers) (suc j) = get_or-pos numbers j

row-place : (numbers : List ℕ) (p b : ℤ) (j : ℕ) → j < order_limit → get_or (row_of numbers p b) (suc j) (pos 0) ≡ pos (get_or numbers j 0)
unfolding row_of
row-place numbers p b j l =
    get_or-append (padded order_limit (map pos numbers)) (p ∷ b ∷ []) (pos 0) j (let e = length-padded order_limit (map pos numbers) in omega arith)
    ∙ get_or-padded order_limit j (map pos numbers) l
    ∙ get_or-pos numbers j

row_first : (numbers : List ℕ) (p b : ℤ) → get_or (row_of numbers p b) 0 (pos 0) ≡ pos (length numbers)
unfolding row_of
row_first numbers p b = refl

-- a table that holds sound rows
module _ (t : List ℤ) (i words : ℕ) (row : List ℤ) (r : RowSound words row) (is : (j : ℕ) → j < 8 → field t i j ≡ get_or row j (pos 0)) where
  place-number : (j : ℕ) → 1 ≤ j → j ≤ order_limit → field t i j ≡ pos (get_or r.numbers (j - 1) 0)
  place-number j a b =
      let e : suc (j - 1) ≡ j = omega arith in
      is j (omega arith) ∙ ap (λ (l : List ℤ). get_or l j (pos 0)) r.is ∙ ap (λ (k : ℕ). get_or (row_of r.numbers r.p r.b) k (pos 0)) (sym e) ∙ row-place r.numbers r.p r.b (j - 1) (omega arith)

  row-length-is : length_of t i ≡ length r.numbers
  unfolding length_of
  row-length-is =
      let f = r.few in
      let e : field t i 0 ≡ pos (length r.numbers) = is 0 (lit< tt) ∙ ap (λ (l : List ℤ). get_or l 0 (pos 0)) r.is ∙ row_first r.numbers r.p r.b in
      rw e (up_to_in (pos order_limit) (pos (length r.numbers)) (between-yes (pos 0) (pos order_limit) (pos (length r.numbers)) (omega zarith) (omega zarith)))

  place-fits : words ≤ 65536 → (j : ℕ) → 1 ≤ j → j ≤ order_limit → place_fits t i j ≡ true
  unfolding place_fits
  place-fits few j a b =
      ⊎_elim
      (λ (l : j - 1 < length r.numbers).
      let m = r.met (get_or r.numbers (j - 1) 0) (get_or_in r.numbers (j - 1) 0 l) in
      let low = m.0 in
      let high = m.1 in
      rw (row-length-is, le-leb j (length r.numbers) (omega arith), place-number j a b) (between-yes (pos 1) (pos word_limit) (pos (get_or r.numbers (j - 1) 0)) (omega zarith) (omega zarith)))
      (λ (l : length r.numbers ≤ j - 1).
      rw (row-length-is, lt-leb j (length r.numbers) (omega arith), place-number j a b, get_or-eq_default r.numbers 0 l))
      (lt_or_ge (j - 1) (length r.numbers))

  sound-good : words ≤ 65536 → GoodRow t i
  unfolding places_fit
  sound-good few = record {
    some = let l = r.some in let e = row-length-is in omega arith;
    places = rw (place-fits few 1 (lit≤ tt) (lit≤ tt), place-fits few 2 (lit≤ tt) (lit≤ tt), place-fits few 3 (lit≤ tt) (lit≤ tt), place-fits few 4 (lit≤ tt) (lit≤ tt), place-fits few 5 (lit≤ tt) (lit≤ tt));
  }

  sound-numbered : Numbered (row_at t i)
  sound-numbered = record { place = λ j a b. rw (row_field t i j (omega arith), place-number j a b) (omega zarith) }

module _ (t : List ℤ) (rows words : ℕ) (a : Reading) (count : rows ≡ length a.rows) (sound : (row : List ℤ) → Memᴰ row a.rows → RowSound words row) (room : 8 * rows ≤ length t) (few : rows ≤ row_limit) where
  front-field : (i j : ℕ) → i < rows → j < 8 → field (padded (length t) (joined a.rows)) i j ≡ get_or (get_or a.rows i []) j (pos 0)
  front-field i j l m = padded-field (length t) (joined a.rows) i j (omega arith) ∙ joined-field a.rows i j (sound_eights words a.rows sound) (omega arith) m

  front-sound : (i : ℕ) → i < rows → RowSound words (get_or a.rows i [])
  front-sound i l = sound (get_or a.rows i []) (get_or_in a.rows i [] (omega arith))

  pub held_ordering : Ordering (padded (length t) (joined a.rows)) rows words
  held_ordering =
      let e = length-padded (length t) (joined a.rows) in
      record {
        words_fit = λ small. record {
          room = omega arith;
          few = few;
          good = λ i l. sound-good (padded (length t) (joined a.rows)) i words (get_or a.rows i []) (front-sound i l) (λ j m. front-field i j l m) small;
        };
        numbered = record {
          room = omega arith;
          numbered = λ i l. sound-numbered (padded (length t) (joined a.rows)) i words (get_or a.rows i []) (front-sound i l) (λ j m. front-field i j l m);
        };
      }

-- ---- list order keeps the length
insert-length : {A : Type 0} (before : A → A → Bool) (x : A) (l : List A) → length (insert_by before x l) ≡ suc (length l)
unfolding insert_by
insert-length before x [] = refl
insert-length before x (y ∷ ys) = go (before y x) (insert-length before x ys)
  where
    go : (b : Bool) → length (insert_by before x ys) ≡ suc (length ys) → length (cond b (y ∷ insert_by before x ys) (x ∷ y ∷ ys)) ≡ suc (suc (length ys))
    go true e = ap suc e
    go false e = refl

sort_length : {A : Type 0} (before : A → A → Bool) (l : List A) → length (sort_by before l) ≡ length l
unfolding sort_by
sort_length before [] = refl
sort_length before (x ∷ xs) = insert-length before x (sort_by before xs) ∙ ap suc (sort_length before xs)

pub rows-count : (t : List ℤ) (i n : ℕ) → length (rows_at t i n) ≡ n
unfolding rows_at
rows-count t i zero = refl
rows-count t i (suc n) = ap suc (rows-count t (suc i) n)

pub order-length : (t : List ℤ) (n : ℕ) → length t ≡ 8 * n → length (list_order t) ≡ 8 * n
unfolding list_order rows_of
order-length t n e =
    let f : length t / 8 ≡ n = omega arith in
    rw f
    (joined_length (sort_by row_before (rows_at t 0 n))
    (λ row m. let w = row_of-member t row 0 n (sort_from row_before row (rows_at t 0 n) m) in let l = w.2 in rw w.3 (row-length t w.0 (omega arith)))
    ∙ ap (λ (k : ℕ). 8 * k) (sort_length row_before (rows_at t 0 n) ∙ rows-count t 0 n))

-- ---- the rows in list order, with 0 behind them
module _ (t : List ℤ) (rows words : ℕ) (a : Reading) (count : rows ≡ length a.rows) (sound : (row : List ℤ) → Memᴰ row a.rows → RowSound words row) (room : 8 * rows ≤ length t) where
  rows-length : length (joined a.rows) ≡ 8 * rows
  rows-length = joined_length a.rows (sound_eights words a.rows sound) ∙ ap (λ (k : ℕ). 8 * k) (sym count)

  ordered-length : length (ordered a) ≡ 8 * rows
  unfolding ordered
  ordered-length = order-length (joined a.rows) rows rows-length

  pub ordered-table : (u : List ℤ) → u ≡ padded (length t) (joined a.rows) → list_order (take (8 * rows) u) ++ drop (8 * rows) u ≡ padded (length t) (ordered a)
  unfolding ordered
  ordered-table u e =
      let n = length t - length (joined a.rows) in
      let l = rows-length in
      let m = order-length (joined a.rows) rows rows-length in
      let f : u ≡ joined a.rows ++ replicate n (pos 0) = e ∙ padded-zeros (length t) (joined a.rows) (omega arith) in
      let same : length t - length (joined a.rows) ≡ length t - length (list_order (joined a.rows)) = omega arith in
      ap (λ (v : List ℤ). list_order (take (8 * rows) v) ++ drop (8 * rows) v) f
      ∙ ap₂ (λ (v w : List ℤ). list_order v ++ w) (take_at (joined a.rows) (replicate n (pos 0)) (8 * rows) l) (drop_at (joined a.rows) (replicate n (pos 0)) (8 * rows) l)
      ∙ ap (λ (k : ℕ). list_order (joined a.rows) ++ replicate k (pos 0)) same
      ∙ sym (padded-zeros (length t) (list_order (joined a.rows)) (omega arith))

  pub ordered-front : take (8 * rows) (padded (length t) (ordered a)) ≡ ordered a
  ordered-front =
      let l = ordered-length in
      ap (take (8 * rows)) (padded-zeros (length t) (ordered a) (omega arith)) ∙ take_at (ordered a) (replicate (length t - length (ordered a)) (pos 0)) (8 * rows) l

  pub too_many : (filling : Bool) → row_limit < rows → verdict_for filling (ordered a) ≡ Refused table_length 0
  too_many filling l = go (table_fits (length (ordered a))) refl
    where
      go : (b : Bool) → table_fits (length (ordered a)) ≡ b → verdict_for filling (ordered a) ≡ Refused table_length 0
      go true e = let f = fitting_table (length (ordered a)) e in let m = ordered-length in let h = f.1 in absurd (omega arith)
      go false e = verdict-refused filling (ordered a) e
