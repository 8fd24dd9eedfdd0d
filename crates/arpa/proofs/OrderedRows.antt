-- Laws of rows of eight numbers, one after the other and in list order, and of a row of one word. Assumes nothing.
use mathlib.Core.Path.{◌≡◌, refl, sym, ap, ap₂, ◌∙◌, subst}
use mathlib.Core.Bool.{Bool, true, false}
use mathlib.Core.List.{List, [], ◌∷◌, ◌++◌, Memᴰ}
use Prim.Native.Nat.{ℕ, zero, suc, ◌+◌, ◌*◌, ◌<◌}
use native.Mathlib.Omega.{arith}
use lib.IntN.{ℤ, pos}
use lib.ListN.{length, take, drop}
use lib.Seq.{take_at, drop-append-add}
use Rattle.integer.specs.Integer.{between, up_to}
use Rattle.integer.proofs.Ranges.{up_to_in, up_to_out}
use Rattle.backoff.specs.Limits.{order_limit, word_limit}
use Rattle.backoff.specs.NineNumbers.{padded}
use Rattle.rows.specs.Table.{rows_of, field, length_of, words_of, words}
use Rattle.rows.proofs.Table.{words-length}
use Rattle.row_codes.specs.Rows.{row_at}
use Rattle.row_order.specs.RowOrder.{rows_at, joined, sort_by, row_before, list_order}
use Rattle.row_order.proofs.Sorts.{sort_from}
use Rattle.row_order.proofs.Rows.{member_of_row}
use Rattle.arpa_sections.specs.Sections.{row_of}
use Rattle.arpa_lines.proofs.JoinedRows.{Eights, row-eight, joined_length}

-- ---- the rows of a table that is rows one after the other
module _ (row t : List ℤ) (eight : length row ≡ 8) where
  row_first : row_at (row ++ t) 0 ≡ row
  unfolding row_at
  row_first = take_at row t 8 eight

  row-behind : (i : ℕ) → row_at (row ++ t) (suc i) ≡ row_at t i
  unfolding row_at
  row-behind i =
      let e : 8 * suc i ≡ length row + 8 * i = omega arith in
      ap (take 8) (ap (λ (k : ℕ). drop k (row ++ t)) e ∙ drop-append-add row t (8 * i))

  rows_behind : (i n : ℕ) → rows_at (row ++ t) (suc i) n ≡ rows_at t i n
  unfolding rows_at
  rows_behind i zero = refl
  rows_behind i (suc n) = ap₂ (λ (r : List ℤ) (rs : List (List ℤ)). r ∷ rs) (row-behind i) (rows_behind (suc i) n)

rows-joined : (rows : List (List ℤ)) → Eights rows → rows_at (joined rows) 0 (length rows) ≡ rows
unfolding joined rows_at
rows-joined [] h = refl
rows-joined (row ∷ rows) h =
    let e = h row (Memᴰ.head refl) in
    ap₂ (λ (r : List ℤ) (rs : List (List ℤ)). r ∷ rs) (row_first row (joined rows) e)
    (rows_behind row (joined rows) e 0 (length rows) ∙ rows-joined rows (λ r m. h r (Memᴰ.tail m)))

joined-count : (rows : List (List ℤ)) → Eights rows → rows_of (joined rows) ≡ length rows
unfolding rows_of
joined-count rows h = let e = joined_length rows h in omega arith

module _ (rows : List (List ℤ)) (eights : Eights rows) where
  pub order-joined : list_order (joined rows) ≡ joined (sort_by row_before rows)
  unfolding list_order
  order-joined = rw (joined-count rows eights, rows-joined rows eights) refl

  sorted_eights : Eights (sort_by row_before rows)
  sorted_eights row m = eights row (sort_from row_before row rows m)

  -- each row in list order is one of the rows
  pub sorted_row : (i : ℕ) → i < rows_of (joined (sort_by row_before rows)) → Memᴰ (row_at (joined (sort_by row_before rows)) i) rows
  sorted_row i l =
      let t = joined (sort_by row_before rows) in
      let n = joined-count (sort_by row_before rows) sorted_eights in
      let m = member_of_row t 0 (length (sort_by row_before rows)) i (omega arith) (omega arith) in
      sort_from row_before (row_at t i) rows (subst (λ (rs : List (List ℤ)). Memᴰ (row_at t i) rs) (rows-joined (sort_by row_before rows) sorted_eights) m)

-- ---- a row of one word
up_to-number : (high n k : ℕ) → up_to (pos high) (pos n) ≡ suc k → n ≡ suc k
up_to-number high n k e = go (between (pos 0) (pos high) (pos n)) refl
  where
    go : (t : Bool) → between (pos 0) (pos high) (pos n) ≡ t → n ≡ suc k
    go true f = sym (up_to_in (pos high) (pos n) f) ∙ e
    go false f = absurd (let g = up_to_out (pos high) (pos n) f in omega arith)

pub one-word-row : (ns : List ℕ) (p b : ℤ) (k : ℕ) → words (row_of ns p b) 0 ≡ suc k ∷ [] → ns ≡ suc k ∷ []
unfolding row_of padded words words_of length_of field up_to
one-word-row ns p b k e = go ns e (row-eight ns p b)
  where
    one : (ms : List ℕ) → words (row_of ms p b) 0 ≡ suc k ∷ [] → length (row_of ms p b) ≡ 8 → length ms ≡ 1
    one ms f long = up_to-number order_limit (length ms) 0 (sym (words-length (row_of ms p b) 0 (omega arith)) ∙ ap length f)

    go : (ms : List ℕ) → words (row_of ms p b) 0 ≡ suc k ∷ [] → length (row_of ms p b) ≡ 8 → ms ≡ suc k ∷ []
    go [] f long = let l = one [] f long in absurd (omega arith)
    go (n ∷ []) f long = let g : up_to (pos word_limit) (pos n) ≡ suc k = cc in ap (λ (i : ℕ). i ∷ []) (up_to-number word_limit n k g)
    go (n ∷ m ∷ ms) f long = let l = one (n ∷ m ∷ ms) f long in absurd (omega arith)
