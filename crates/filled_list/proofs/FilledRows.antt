-- The rows of the filled list: exactly the lent rows and those of two or more words that a lent row is without its first words; they ascend, and with each
-- row of two or more words those without its first and without its last word are among them. Assumes nothing.
use Rattle.std.specs.declared.option.Option.TheVariants.{None}
use mathlib.Core.Path.{◌≡◌, refl, sym, ap, ◌∙◌}
use mathlib.Core.Logic.{◌⊎◌, inl, inr, ⊎_elim}
use mathlib.Core.Bool.{true}
use mathlib.Core.List.{List, [], ◌∷◌, ◌++◌, append_assoc}
use Prim.Native.Nat.{ℕ, ◌+◌, ◌*◌, ◌≤◌, ◌<◌}
use native.Mathlib.Omega.{arith}
use lib.ListN.{length, length-append}
use lib.IntN.{ℤ}
use Rattle.backoff.specs.Limits.{order_limit}
use Rattle.backoff.specs.Words.{are_words}
use Rattle.backoff.specs.Refusal.{Accepted}
use Rattle.rows.specs.Table.{rows_of, field, length_of, word_of, words, without_last}
use Rattle.rows.specs.Good.{Good}
use Rattle.rows.proofs.Table.{length_limit, row_in, words-length, words_snoc, last_word_lem}
use Rattle.rows.proofs.Good.{are_words_lem}
use Rattle.row_search.specs.Search.{find_in, is_at}
use Rattle.rows_before.specs.Faults.{without_firsts}
use Rattle.list.specs.Check.{verdict_for}
use Rattle.list.proofs.Check.{checked-good, checked-first, checked-last}
use Rattle.list.proofs.Meaning.{no_row}
use Rattle.filled_list.specs.Filled.{rows_from, all_without_first_words, filled_rows}
use Rattle.filled_list.proofs.Ascending.{In, Ascending, AllWords, in_insert_all, insert_all-has, insert_all-only, insert_all-ascends, insert_all-length}
use Rattle.filled_list.proofs.WithoutFirstWords.{snoc_eq, are_words-behind, all-has, all-only, all-length, in_rows_from, length-rows_from, rows_from-only, rows_from-ascends}

-- ws is a row of the table, or one without its first words, of two or more words then
pub record EndOf (t : List ℤ) (ws : List ℕ) : Type 0 where
  pub at : ℕ
  pub within : at < rows_of t
  pub front : List ℕ
  pub same : words t at ≡ front ++ ws
  pub long : (front ≡ []) ⊎ (2 ≤ length ws)

module _ (t : List ℤ) where
  abbrev pub lent : List (List ℕ)
  lent = rows_from t 0 (rows_of t)

  pub lent-only : (ws : List ℕ) → In ws lent → (j : ℕ) × (j < rows_of t) × (words t j ≡ ws)
  lent-only ws m = let j = rows_from-only t 0 (rows_of t) ws m in (j.0, let l = j.2 in omega arith, j.3)

  row_in_filled : (i : ℕ) → i < rows_of t → In (words t i) (filled_rows t)
  unfolding filled_rows
  row_in_filled i l = in_insert_all (all_without_first_words lent) lent (words t i) (in_rows_from t 0 (rows_of t) i (omega arith) (omega arith))

  pub end_in_filled : (ws : List ℕ) → EndOf t ws → In ws (filled_rows t)
  unfolding filled_rows
  end_in_filled ws e = go e.front e.same e.long
    where
      go : (front : List ℕ) → words t e.at ≡ front ++ ws → (front ≡ []) ⊎ (2 ≤ length ws) → In ws (filled_rows t)
      go [] s o = rw (← s) (row_in_filled e.at e.within)
      go (u ∷ front) s (inl z) = absurd (omega (arith, ap length z))
      go (u ∷ front) s (inr l) =
          insert_all-has (all_without_first_words lent) lent ws
          (all-has lent (words t e.at) ws (in_rows_from t 0 (rows_of t) e.at (omega arith) (let w = e.within in omega arith)) (record { first = u; front = front; same = s; two = l }))

  pub filled_in_end : (ws : List ℕ) → In ws (filled_rows t) → EndOf t ws
  unfolding filled_rows
  filled_in_end ws m = go (insert_all-only (all_without_first_words lent) lent ws m)
    where
      go : In ws (all_without_first_words lent) ⊎ In ws lent → EndOf t ws
      go (inl n) =
          let r = all-only lent ws n in
          let b = r.2 in
          let j = lent-only r.0 r.1 in
          record { at = j.0; within = j.1; front = b.first ∷ b.front; same = j.2 ∙ b.same; long = inr b.two }
      go (inr n) =
          let j = lent-only ws n in
          record { at = j.0; within = j.1; front = []; same = j.2; long = inl refl }

  -- a row that the list lacks has two or more words
  pub end-absent : (ws : List ℕ) → EndOf t ws → find_in t ws ≡ None → 2 ≤ length ws
  end-absent ws d e =
      ⊎_elim
      (λ z. absurd (no_row t ws (ap is_at e) d.at d.within (d.same ∙ ap (λ (front : List ℕ). front ++ ws) z)))
      (λ m. m)
      d.long

  module _ (g : Good t (rows_of t)) where
    pub end-words : (ws : List ℕ) → EndOf t ws → are_words ws ≡ true
    end-words ws e = are_words-behind e.front ws (sym (ap are_words e.same) ∙ are_words_lem t e.at (g.row e.at e.within))

    pub lent-words : AllWords lent
    lent-words ws m = let j = lent-only ws m in rw (← j.2) (are_words_lem t j.0 (g.row j.0 j.1))

    added-words : AllWords (all_without_first_words lent)
    added-words ws m =
        let r = all-only lent ws m in
        let b = r.2 in
        are_words-behind (b.first ∷ b.front) ws (sym (ap are_words b.same) ∙ lent-words r.0 r.1)

    pub filled-ascends : Ascending (filled_rows t)
    unfolding filled_rows
    filled-ascends = insert_all-ascends (all_without_first_words lent) lent added-words lent-words (rows_from-ascends t (rows_of t) 0 (rows_of t) g (omega arith))

    -- and are not many
    pub filled-few : length (filled_rows t) ≤ 6 * rows_of t
    unfolding filled_rows
    filled-few =
        let a = all-length order_limit lent (λ ws m. let j = lent-only ws m in let l = length_limit t j.0 in omega (arith, words-length t j.0 (row_in t j.0 j.1), ap length j.2)) in
        omega (arith, insert_all-length (all_without_first_words lent) lent, length-rows_from t 0 (rows_of t))

    end-length : (ws : List ℕ) (e : EndOf t ws) → length e.front + length ws ≡ length_of t e.at
    end-length ws e = sym (length-append e.front ws) ∙ sym (ap length e.same) ∙ words-length t e.at (row_in t e.at e.within)

    pub end-some : (ws : List ℕ) (e : EndOf t ws) → (0 < length ws) × (length ws ≤ length_of t e.at)
    end-some ws e =
        let n = end-length ws e in
        let s = (g.row e.at e.within).some in
        (⊎_elim (λ z. omega (arith, ap length z)) (λ l. omega arith) e.long, omega arith)

-- ---- what check 8 leaves of a list that is to be filled

module _ (t : List ℤ) (a : verdict_for true t ≡ Accepted) where
  -- the last word of a row has a row of its own
  pub last_alone : (j : ℕ) → j < rows_of t → (front : List ℕ) (y : ℕ) → words t j ≡ front ++ (y ∷ []) → EndOf t (y ∷ [])
  unfolding without_firsts
  last_alone j l [] y s = record { at = j; within = l; front = []; same = s; long = inl refl }
  last_alone j l (u ∷ front) y s =
      let h = row_in t j l in
      let some = ((checked-good true t a).row j l).some in
      let size : 2 ≤ length_of t j = omega (arith, sym (words-length t j h) ∙ ap length s, length-append front (y ∷ [])) in
      let k = checked-first true t a j l size in
      let w = snoc_eq (without_last t j) (u ∷ front) (word_of (field t j (length_of t j))) y (sym (words_snoc t j h some) ∙ s) in
      record { at = k.0; within = let p = k.1 in omega arith; front = []; same = k.2 ∙ last_word_lem t j h ∙ ap {B = List ℕ} (λ v. v ∷ []) w.1; long = inl refl }

  pub end-without_first : (w v : ℕ) (vs : List ℕ) → EndOf t (w ∷ v ∷ vs) → EndOf t (v ∷ vs)
  end-without_first w v vs e = go vs refl
    where
      shifted : words t e.at ≡ (e.front ++ (w ∷ [])) ++ (v ∷ vs)
      shifted = e.same ∙ sym (append_assoc e.front (w ∷ []) (v ∷ vs))

      go : (us : List ℕ) → vs ≡ us → EndOf t (v ∷ vs)
      go [] z = rw z (last_alone e.at e.within (e.front ++ (w ∷ [])) v (rw z at shifted))
      go (u ∷ us) z = record { at = e.at; within = e.within; front = e.front ++ (w ∷ []); same = shifted; long = inr (omega (arith, ap length z)) }

  pub end-without_last : (u : ℕ) (us : List ℕ) (x : ℕ) → EndOf t ((u ∷ us) ++ (x ∷ [])) → EndOf t (u ∷ us)
  end-without_last u us x e = go e.front us refl refl
    where
      h : 8 * e.at + 8 ≤ length t
      h = row_in t e.at e.within

      some : 0 < length_of t e.at
      some = ((checked-good true t a).row e.at e.within).some

      shifted : words t e.at ≡ (e.front ++ (u ∷ us)) ++ (x ∷ [])
      shifted = e.same ∙ sym (append_assoc e.front (u ∷ us) (x ∷ []))

      size : 2 ≤ length_of t e.at
      size = omega (arith, sym (words-length t e.at h) ∙ ap length shifted, length-append (e.front ++ (u ∷ us)) (x ∷ []), length-append e.front (u ∷ us))

      rest : without_last t e.at ≡ e.front ++ (u ∷ us)
      rest = (snoc_eq (without_last t e.at) (e.front ++ (u ∷ us)) (word_of (field t e.at (length_of t e.at))) x (sym (words_snoc t e.at h some) ∙ shifted)).0

      k : (j : ℕ) × (j < e.at) × (words t j ≡ without_last t e.at)
      k = checked-last true t a e.at e.within size

      inside : k.0 < rows_of t
      inside = let p = k.1 in let q = e.within in omega arith

      row : words t k.0 ≡ e.front ++ (u ∷ us)
      row = k.2 ∙ rest

      go : (front vs : List ℕ) → e.front ≡ front → us ≡ vs → EndOf t (u ∷ us)
      go [] vs z y = record { at = k.0; within = inside; front = []; same = row ∙ ap (λ (l : List ℕ). l ++ (u ∷ us)) z; long = inl refl }
      go (f ∷ front) [] z y = rw y (last_alone k.0 inside e.front u (row ∙ ap (λ (l : List ℕ). e.front ++ (u ∷ l)) y))
      go (f ∷ front) (v ∷ vs) z y = record { at = k.0; within = inside; front = e.front; same = row; long = inr (omega (arith, ap length y)) }
