-- Laws of the table that holds the rows of a reading: one row more. Assumes nothing.
use mathlib.Core.Path.{◌≡◌, refl, sym, ap, ap₂, ◌∙◌}
use mathlib.Core.Logic.{◌⊎◌, inl, inr, ⊎_elim}
use mathlib.Core.List.{List, [], ◌∷◌, ◌++◌, map, append_assoc, Memᴰ}
use Prim.Native.Nat.{ℕ, zero, suc, ◌+◌, ◌*◌, ◌-◌, ◌<◌, ◌≤◌}
use native.Mathlib.Omega.{arith}
use lib.IntN.{ℤ, pos}
use lib.ListN.{length, get_or, set, length-append, length-set, get_or-append, get_or-eq_default}
use lib.Seq.{get_or-append-add, get_or-set_same, get_or-set_other}
use Rattle.integer.proofs.Ranges.{lt_or_ge}
use Rattle.backoff.specs.Limits.{order_limit}
use Rattle.backoff.specs.NineNumbers.{padded}
use Rattle.backoff.proofs.NineNumbers.{length-padded}
use Rattle.rows.specs.Table.{field}
use Rattle.row_order.specs.RowOrder.{joined}
use Rattle.word_index.specs.Index.{Indexed}
use Rattle.arpa_sections.specs.Sections.{row_of}
use Rattle.arpa_sections.specs.Held.{TableHeld, FreeRow, RowSound}
use Rattle.arpa_lines.specs.Held.{word_field, word_row}

-- every row has eight numbers
abbrev pub Eights : List (List ℤ) → Type 0
Eights rows = (row : List ℤ) → Memᴰ row rows → length row ≡ 8

pub row-eight : (numbers : List ℕ) (p b : ℤ) → length (row_of numbers p b) ≡ 8
unfolding row_of
row-eight numbers p b =
    let e = length-append (padded order_limit (map pos numbers)) (p ∷ b ∷ []) in
    let f = length-padded order_limit (map pos numbers) in
    omega arith

pub sound_eights : (words : ℕ) (rows : List (List ℤ)) → ((row : List ℤ) → Memᴰ row rows → RowSound words row) → Eights rows
sound_eights words rows h row m = let r = h row m in ap length r.is ∙ row-eight r.numbers r.p r.b

pub joined_length : (rows : List (List ℤ)) → Eights rows → length (joined rows) ≡ 8 * length rows
unfolding joined
joined_length [] h = refl
joined_length (row ∷ rows) h =
    let e = h row (Memᴰ.head refl) in
    let f = joined_length rows (λ r m. h r (Memᴰ.tail m)) in
    let g = length-append row (joined rows) in
    omega arith

joined_snoc : (rows : List (List ℤ)) (row : List ℤ) → joined (rows ++ (row ∷ [])) ≡ joined rows ++ (row ++ [])
unfolding joined
joined_snoc [] row = refl
joined_snoc (r ∷ rows) row = ap (λ (l : List ℤ). r ++ l) (joined_snoc rows row) ∙ sym (append_assoc r (joined rows) (row ++ []))

module _ (rows : List (List ℤ)) (row : List ℤ) (n : ℕ) (eights : Eights rows) (count : n ≡ length rows) where
  joined-long : length (joined rows) ≡ 8 * n
  joined-long = joined_length rows eights ∙ ap (λ (k : ℕ). 8 * k) (sym count)

  pub field-behind : (i j : ℕ) → n ≤ i → field (joined rows) i j ≡ pos 0
  unfolding field
  field-behind i j l = let e = joined-long in get_or-eq_default (joined rows) (pos 0) {n = 8 * i + j} (omega arith)

  field_old : (i j : ℕ) → j < 8 → i < n → field (joined (rows ++ (row ∷ []))) i j ≡ field (joined rows) i j
  unfolding field
  field_old i j l m =
      let e = joined-long in
      ap (λ (t : List ℤ). get_or t (8 * i + j) (pos 0)) (joined_snoc rows row)
      ∙ get_or-append (joined rows) (row ++ []) (pos 0) (8 * i + j) (omega arith)

  field-new : (i k j : ℕ) → i ≡ n + k → field (joined (rows ++ (row ∷ []))) i j ≡ get_or (row ++ []) (8 * k + j) (pos 0)
  unfolding field
  field-new i k j l =
      let e = joined-long in
      let f : 8 * i + j ≡ length (joined rows) + (8 * k + j) = omega arith in
      ap₂ (λ (t : List ℤ) (a : ℕ). get_or t a (pos 0)) (joined_snoc rows row) f
      ∙ get_or-append-add (joined rows) (row ++ []) (8 * k + j) (pos 0)

  -- ---- numbers 2 and 3 stay free
  free-behind : (i j : ℕ) → j < 8 → n ≤ i → length row ≡ 8 → get_or row j (pos 0) ≡ pos 0 → field (joined (rows ++ (row ∷ []))) i j ≡ pos 0
  free-behind i j l m eight z =
      let whole = length-append row [] in
      ⊎_elim
      (λ (q : n < i). field-new i (i - n) j (omega arith) ∙ get_or-eq_default (row ++ []) (pos 0) {n = 8 * (i - n) + j} (omega arith))
      (λ (q : i ≤ n).
      let e : 8 * 0 + j ≡ j = omega arith in
      field-new i 0 j (omega arith) ∙ ap (λ (k : ℕ). get_or (row ++ []) k (pos 0)) e ∙ get_or-append row [] (pos 0) j (omega arith) ∙ z)
      (lt_or_ge n i)

  pub free-kept : (i : ℕ) → i < n → FreeRow rows i → FreeRow (rows ++ (row ∷ [])) i
  free-kept i l f = (field_old i 2 (omega arith) l ∙ f.0, field_old i 3 (omega arith) l ∙ f.1)

  pub free_more : length row ≡ 8 → get_or row 2 (pos 0) ≡ pos 0 → get_or row 3 (pos 0) ≡ pos 0 → ((i : ℕ) → FreeRow rows i) → (i : ℕ) → FreeRow (rows ++ (row ∷ [])) i
  free_more eight y z f i =
      ⊎_elim
      (λ (l : i < n). free-kept i l (f i))
      (λ (l : n ≤ i). (free-behind i 2 (omega arith) l eight y, free-behind i 3 (omega arith) l eight z))
      (lt_or_ge i n)

  -- a table that holds the rows holds one row more, where row n is that row and nothing else is written
  pub row-more-held : (t u : List ℤ) (taken more : ℕ) → length row ≡ 8 → TableHeld t rows taken → taken ≤ more
      → ((i j : ℕ) → j < 8 → (i ≡ n → ⊥) → (more ≤ i) ⊎ (j < 2) ⊎ (4 ≤ j) → field u i j ≡ field t i j)
      → ((j : ℕ) → j < 8 → (more ≤ n) ⊎ (j < 2) ⊎ (4 ≤ j) → field u n j ≡ get_or row j (pos 0))
      → TableHeld u (rows ++ (row ∷ [])) more
  row-more-held t u taken more eight held le others here = record { same = same }
    where
      weaker : (i j : ℕ) → (more ≤ i) ⊎ (j < 2) ⊎ (4 ≤ j) → (taken ≤ i) ⊎ (j < 2) ⊎ (4 ≤ j)
      weaker i j w = ⊎_elim (λ (x : more ≤ i). inl (omega arith)) (λ y. inr y) w

      whole : length (row ++ []) ≡ 8
      whole = let e = length-append row [] in omega arith

      same : (i j : ℕ) → j < 8 → (more ≤ i) ⊎ (j < 2) ⊎ (4 ≤ j) → field u i j ≡ field (joined (rows ++ (row ∷ []))) i j
      same i j l w =
          ⊎_elim
          (λ (m : i < n). others i j l (λ z. absurd (omega arith)) w ∙ held.same i j l (weaker i j w) ∙ sym (field_old i j l m))
          (λ (m : n ≤ i).
          ⊎_elim
          (λ (q : n < i).
          let a : i ≡ n + suc (i - suc n) = omega arith in
          let e = whole in
          others i j l (λ z. absurd (omega arith)) w
          ∙ held.same i j l (weaker i j w)
          ∙ field-behind i j (omega arith)
          ∙ sym (field-new i (suc (i - suc n)) j a ∙ get_or-eq_default (row ++ []) (pos 0) {n = 8 * suc (i - suc n) + j} (omega arith)))
          (λ (q : i ≤ n).
          let a : i ≡ n = omega arith in
          let b : i ≡ n + 0 = omega arith in
          let e : 8 * 0 + j ≡ j = omega arith in
          ap (λ (k : ℕ). field u k j) a
          ∙ here j l (⊎_elim (λ (x : more ≤ i). inl (omega arith)) (λ y. inr y) w)
          ∙ sym (field-new i 0 j b ∙ ap (λ (k : ℕ). get_or (row ++ []) k (pos 0)) e ∙ get_or-append row [] (pos 0) j (omega arith)))
          (lt_or_ge n i))
          (lt_or_ge i n)

-- ---- the index
-- a table with the same heads and links is indexed alike
pub indexed_kept : (t u : List ℤ) (s : List ℕ) (c words : ℕ) → length u ≡ length t → ((h : ℕ) → h < c → field u h 2 ≡ field t h 2) → ((k : ℕ) → k < words → field u (k - 4) 3 ≡ field t (k - 4) 3) → Indexed t s c words → Indexed u s c words
indexed_kept t u s c words e f g x = record {
  some = x.some;
  start = x.start;
  few = x.few;
  head-room = let r = x.head-room in omega arith;
  link-room = let r = x.link-room in omega arith;
  store-room = x.store-room;
  short = x.short;
  distinct = x.distinct;
  head = λ h l. f h l ∙ x.head h l;
  link = λ k a l. g k l ∙ x.link k a l;
}

-- ---- the row of a word
pub word-row-free : (k : ℕ) (p b : ℤ) → (get_or (row_of (k ∷ []) p b) 2 (pos 0) ≡ pos 0) × (get_or (row_of (k ∷ []) p b) 3 (pos 0) ≡ pos 0)
unfolding row_of padded
word-row-free k p b = (refl, refl)

module _ (u : List ℤ) (n word : ℕ) (p b : ℤ) where
  pub word-row-length : length (word_row u n word p b) ≡ length u
  unfolding word_row
  word-row-length = simp length-set refl

  pub word-row-other : (i j : ℕ) → (8 * i + j ≡ 8 * n → ⊥) → (8 * i + j ≡ 8 * n + 1 → ⊥) → (8 * i + j ≡ 8 * n + 6 → ⊥) → (8 * i + j ≡ 8 * n + 7 → ⊥)
      → field (word_row u n word p b) i j ≡ field u i j
  unfolding word_row field
  word-row-other i j a c d e =
      get_or-set_other (set (set (set u (8 * n) (pos 1)) (8 * n + 1) (word_field word)) (8 * n + 6) p) (8 * n + 7) (8 * i + j) b (pos 0) e
      ∙ get_or-set_other (set (set u (8 * n) (pos 1)) (8 * n + 1) (word_field word)) (8 * n + 6) (8 * i + j) p (pos 0) d
      ∙ get_or-set_other (set u (8 * n) (pos 1)) (8 * n + 1) (8 * i + j) (word_field word) (pos 0) c
      ∙ get_or-set_other u (8 * n) (8 * i + j) (pos 1) (pos 0) a

  module _ (room : 8 * n + 8 ≤ length u) where
    word-row-first : field (word_row u n word p b) n 0 ≡ pos 1
    unfolding word_row field
    word-row-first =
        let z : 8 * n + 0 ≡ 8 * n = omega arith in
        rw z
        (get_or-set_other (set (set (set u (8 * n) (pos 1)) (8 * n + 1) (word_field word)) (8 * n + 6) p) (8 * n + 7) (8 * n) b (pos 0) (λ e. absurd (omega arith))
        ∙ get_or-set_other (set (set u (8 * n) (pos 1)) (8 * n + 1) (word_field word)) (8 * n + 6) (8 * n) p (pos 0) (λ e. absurd (omega arith))
        ∙ get_or-set_other (set u (8 * n) (pos 1)) (8 * n + 1) (8 * n) (word_field word) (pos 0) (λ e. absurd (omega arith))
        ∙ get_or-set_same u (8 * n) (pos 1) (pos 0) (omega arith))

    word-row-word : field (word_row u n word p b) n 1 ≡ word_field word
    unfolding word_row field
    word-row-word =
        get_or-set_other (set (set (set u (8 * n) (pos 1)) (8 * n + 1) (word_field word)) (8 * n + 6) p) (8 * n + 7) (8 * n + 1) b (pos 0) (λ e. absurd (omega arith))
        ∙ get_or-set_other (set (set u (8 * n) (pos 1)) (8 * n + 1) (word_field word)) (8 * n + 6) (8 * n + 1) p (pos 0) (λ e. absurd (omega arith))
        ∙ get_or-set_same (set u (8 * n) (pos 1)) (8 * n + 1) (word_field word) (pos 0) (rw length-set (omega arith))

    word-row-p : field (word_row u n word p b) n 6 ≡ p
    unfolding word_row field
    word-row-p =
        get_or-set_other (set (set (set u (8 * n) (pos 1)) (8 * n + 1) (word_field word)) (8 * n + 6) p) (8 * n + 7) (8 * n + 6) b (pos 0) (λ e. absurd (omega arith))
        ∙ get_or-set_same (set (set u (8 * n) (pos 1)) (8 * n + 1) (word_field word)) (8 * n + 6) p (pos 0) (simp length-set (omega arith))

    word-row-b : field (word_row u n word p b) n 7 ≡ b
    unfolding word_row field
    word-row-b = get_or-set_same (set (set (set u (8 * n) (pos 1)) (8 * n + 1) (word_field word)) (8 * n + 6) p) (8 * n + 7) b (pos 0) (simp length-set (omega arith))

    -- the numbers that are not the index's
    pub word-row-here : word_field word ≡ pos word → field u n 4 ≡ pos 0 → field u n 5 ≡ pos 0 → (j : ℕ) → j < 8 → (j < 2) ⊎ (4 ≤ j)
        → field (word_row u n word p b) n j ≡ get_or (row_of (word ∷ []) p b) j (pos 0)
    unfolding row_of padded
    word-row-here w e f zero l m = word-row-first
    word-row-here w e f (suc zero) l m = word-row-word ∙ w
    word-row-here w e f (suc (suc zero)) l m = absurd (⊎_elim (λ x. omega arith) (λ x. omega arith) m)
    word-row-here w e f (suc (suc (suc zero))) l m = absurd (⊎_elim (λ x. omega arith) (λ x. omega arith) m)
    word-row-here w e f (suc (suc (suc (suc zero)))) l m = word-row-other n 4 (λ z. absurd (omega arith)) (λ z. absurd (omega arith)) (λ z. absurd (omega arith)) (λ z. absurd (omega arith)) ∙ e
    word-row-here w e f (suc (suc (suc (suc (suc zero))))) l m = word-row-other n 5 (λ z. absurd (omega arith)) (λ z. absurd (omega arith)) (λ z. absurd (omega arith)) (λ z. absurd (omega arith)) ∙ f
    word-row-here w e f (suc (suc (suc (suc (suc (suc zero)))))) l m = word-row-p
    word-row-here w e f (suc (suc (suc (suc (suc (suc (suc zero))))))) l m = word-row-b
    word-row-here w e f (suc (suc (suc (suc (suc (suc (suc (suc j)))))))) l m = absurd (omega arith)

  -- the index lies in other numbers
  pub word-row_indexed : (s : List ℕ) (c words : ℕ) → Indexed u s c words → Indexed (word_row u n word p b) s c words
  word-row_indexed s c words =
      indexed_kept u (word_row u n word p b) s c words word-row-length
      (λ h l. word-row-other h 2 (λ z. absurd (omega arith)) (λ z. absurd (omega arith)) (λ z. absurd (omega arith)) (λ z. absurd (omega arith)))
      (λ k l. word-row-other (k - 4) 3 (λ z. absurd (omega arith)) (λ z. absurd (omega arith)) (λ z. absurd (omega arith)) (λ z. absurd (omega arith)))
