-- What a verdict means: the refusal that is answered meets the list, and nothing meets it that is tried earlier. Assumes nothing.
use Rattle.std.specs.declared.option.Option.TheVariants.{Some}
use mathlib.Core.Path.{◌≡◌, refl, sym, ap, ◌∙◌, subst}
use mathlib.Core.Logic.{◌⊎◌, inl, inr, ⊎_elim}
use mathlib.Core.Bool.{Bool, true, false, not, cond, ◌&&◌, ◌||◌, and-false, false≢true}
use mathlib.Core.List.{List, [], ◌∷◌}
use Prim.Native.Nat.{ℕ, zero, suc, ◌+◌, ◌*◌, ◌%◌, ◌<◌, ◌≤◌}
use native.Mathlib.Nat.{not-suc-le-zero}
use native.Mathlib.Numerals.{add-one}
use native.Mathlib.Omega.{arith}
use lib.Dec.{eqb, leb}
use lib.IntN.{ℤ, pos, nat_abs}
use lib.ListN.{length, take}
use borrow.Author.Tests.{eqb-true, eqb-false, eq-eqb, ne_eqb, leb-true, leb-false, le-leb, lt-leb, not-true, not-false}
use Rattle.integer.specs.Integer.{eq_z, between, up_to, or_else}
use Rattle.integer.proofs.Arithmetic.{zarith, abs}
use Rattle.integer.proofs.Ranges.{lt_or_ge, and_left, and_right, and_both, false_unless, between-low, between-high, between-yes, up_to_in, up_to_out, up_to-some}
use Rattle.backoff.specs.Limits.{row_limit, order_limit, unknown_word, start_word, end_word}
use Rattle.backoff.specs.Model.{in_probability, in_backoff}
use Rattle.backoff.specs.Refusal.{number_of, place_of, table_length, row_length, row_words, row_probability, row_backoff, row_order, shorter_row, reserved_word}
use Rattle.backoff.specs.Words.{same_words}
use Rattle.backoff.specs.Refusal.{Verdict}
use Rattle.backoff.specs.Refusal.{Accepted, Refused}
use Rattle.backoff.proofs.Words.{same_refl}
use Rattle.rows.specs.Table.{rows_of, field, probability_at, backoff_at, length_of, order_of, words, without_last, place_fits, places_fit}
use Rattle.rows.specs.Order.{precedes}
use Rattle.rows.proofs.Table.{length_limit, row_in, part_rows_lem, part_words, place-fits, place_used, place_unused}
use Rattle.row_search.specs.Search.{find_below, find_in, is_at}
use Rattle.row_search.proofs.Search.{is-at, found-words}
use Rattle.row_fields.specs.Fields.{backoff_fits, field_fault}
use Rattle.row_fields.proofs.Fields.{backoff_in, backoff-longest as backoff-last}
use Rattle.rows_before.specs.Faults.{is_after, without_firsts, shorter_listed, order_fault, row_fault}
use Rattle.list.specs.Check.{table_fits, reserved_listed, refuse, scan, verdict_for, verdict}
use Rattle.list.specs.Meaning.{NoRowBelow, Meets, table_empty, table_parted, table-long, row-length, used_word, unused_word, row-probability, backoff_range, backoff-longest, row-order, without_first_lem, without_last_lem, no-unknown, no_start, no_end, NoneMeets, turn, VerdictMeans, CheckMeans}
use Rattle.list.proofs.Check.{fitting_table, number-accepted}
use Rattle.list.proofs.ListModel.{accepted-model}

-- ---- tests in a row

false-true : {b : Bool} → b ≡ false → b ≡ true → ⊥
false-true e f = false≢true (sym e ∙ f)

-- the first one that is met tells
cond-some : (b : Bool) (x r f : ℕ) → cond b x r ≡ suc f → ((b ≡ true) × (x ≡ suc f)) ⊎ ((b ≡ false) × (r ≡ suc f))
cond-some true x r f e = inl (refl, e)
cond-some false x r f e = inr (refl, e)

-- so one that is met is told, or one before it: f is a fault, of the number n at most
abbrev UpTo : ℕ → ℕ → Type 0
UpTo n f = (0 < f) × (f ≤ n)

cond-first : (b : Bool) (x r : ℕ) → 0 < x → b ≡ true → UpTo x (cond b x r)
cond-first true x r l e = (l, omega arith)
cond-first false x r l e = absurd (false-true refl e)

cond_later : (b : Bool) (x r n : ℕ) → 0 < x → x ≤ n → UpTo n r → UpTo n (cond b x r)
cond_later true x r n l m h = (l, m)
cond_later false x r n l m h = h

cond-most : (b : Bool) (x r n : ℕ) → x ≤ n → r ≤ n → cond b x r ≤ n
cond-most true x r n l m = l
cond-most false x r n l m = m

or_later : (a b n : ℕ) → a ≤ n → UpTo n b → UpTo n (or_else a b)
or_later zero b n l h = h
or_later (suc a) b n l h = (omega arith, l)

or_first : (a b n : ℕ) → UpTo n a → UpTo n (or_else a b)
or_first zero b n h = absurd (not-suc-le-zero h.0)
or_first (suc a) b n h = h

and-some : (a b : Bool) → (a && b) ≡ false → (a ≡ false) ⊎ (b ≡ false)
and-some true b e = inr e
and-some false b e = inl refl

-- a number outside 1 to h
up_to-none : (h : ℕ) (z : ℤ) → between (pos 1) (pos h) z ≡ false → up_to (pos h) z ≡ 0
up_to-none h z e = go (between (pos 0) (pos h) z) refl
  where
    go : (b : Bool) → between (pos 0) (pos h) z ≡ b → up_to (pos h) z ≡ 0
    go false q = up_to_out (pos h) z q
    go true q =
        let l = between-low (pos 0) (pos h) z q in
        let u = between-high (pos 0) (pos h) z q in
        let f = up_to_in (pos h) z q in
        ⊎_elim
        (λ (k : 0 < nat_abs z). absurd (false-true e (between-yes (pos 1) (pos h) z (omega (zarith, abs z)) u)))
        (λ k. omega arith)
        (lt_or_ge 0 (nat_abs z))

length_none : (t : List ℤ) (i : ℕ) → between (pos 1) (pos order_limit) (field t i 0) ≡ false → length_of t i ≡ 0
unfolding length_of
length_none t i e = up_to-none order_limit (field t i 0) e

zero_told : {z : ℤ} → eq_z z (pos 0) ≡ true → z ≡ pos 0
zero_told {z} e = omega zarith

-- ---- rows that are there or not

row-found : (t : List ℤ) (ws : List ℕ) (n j : ℕ) → j < n → words t j ≡ ws → is_at (find_below t ws n) ≡ true
unfolding find_below
row-found t ws zero j l e = absurd (not-suc-le-zero l)
row-found t ws (suc n) j l e = go (same_words (words t n) ws) refl (λ m. row-found t ws n j m e)
  where
    go : (b : Bool) → same_words (words t n) ws ≡ b → (j < n → is_at (find_below t ws n) ≡ true) → is_at (cond b (Some n) (find_below t ws n)) ≡ true
    go true q ih = refl
    go false q ih =
        ⊎_elim ih
        (λ (m : n ≤ j). let z : j ≡ n = omega arith in absurd (false-true q (rw (← e, z) (same_refl (words t n)))))
        (lt_or_ge j n)

pub no_row : (t : List ℤ) (ws : List ℕ) → is_at (find_in t ws) ≡ false → NoRowBelow t (rows_of t) ws
unfolding find_in
no_row t ws e j l w = false-true e (row-found t ws (rows_of t) j l w)

not_found : (t : List ℤ) (ws : List ℕ) → NoRowBelow t (rows_of t) ws → is_at (find_in t ws) ≡ false
not_found t ws h = false_unless (is_at (find_in t ws)) (λ e. let f = is-at (find_in t ws) e in let r = found-words t ws f.0 f.1 in h f.0 r.0 r.1)

module _ (filling : Bool) (t : List ℤ) where
  module _ (i : ℕ) (l : i < rows_of t) where
    inside : 8 * i ≤ length t
    inside = let h = row_in t i l in omega arith

    no-row-before : (ws : List ℕ) → is_at (find_in (take (8 * i) t) ws) ≡ false → NoRowBelow t i ws
    no-row-before ws e j m w = no_row (take (8 * i) t) ws e j (omega (arith, part_rows_lem t i inside)) (part_words t i j m ∙ w)

    not-before : (ws : List ℕ) → NoRowBelow t i ws → is_at (find_in (take (8 * i) t) ws) ≡ false
    not-before ws h =
        not_found (take (8 * i) t) ws
        (λ j m w. let p : j < i = omega (arith, part_rows_lem t i inside) in h j p (sym (part_words t i j p) ∙ w))

    -- ---- a fault of row i meets the list

    met : {n f : ℕ} → n ≡ suc f → Meets filling t n (suc i) → Meets filling t (suc f) (suc i)
    met e m = subst (λ (k : ℕ). Meets filling t k (suc i)) e m

    length-met : length_of t i ≡ 0 → Meets filling t row_length (suc i)
    unfolding length_of
    length-met e = row-length i l (false_unless _ (λ b. let s = up_to-some (pos order_limit) (field t i 0) b in omega arith))

    places-met : (j k : ℕ) → places_fit t i j k ≡ false → (q : ℕ) × (j ≤ q) × (q < j + k) × (place_fits t i q ≡ false)
    unfolding places_fit
    places-met j zero e = absurd (false-true e refl)
    places-met j (suc k) e =
        ⊎_elim (λ a. (j, omega arith, omega arith, a))
        (λ b. let r = places-met (suc j) k b in (r.0, let h = r.1 in omega arith, let h = r.2 in omega arith, r.3))
        (and-some (place_fits t i j) (places_fit t i (suc j) k) e)

    words-met : places_fit t i 1 order_limit ≡ false → Meets filling t row_words (suc i)
    unfolding place_fits
    words-met e =
        let r = places-met 1 order_limit e in
        let q = r.0 in
        let s = r.1 in
        let u = r.2 in
        ⊎_elim
        (λ m. unused_word i q l m (omega arith) (λ z. false-true r.3 (rw (lt-leb q (length_of t i) m, z) refl)))
        (λ (m : q ≤ length_of t i). used_word i q l s m (rw (le-leb q (length_of t i) m) at r.3))
        (lt_or_ge (length_of t i) q)

    backoff-met : backoff_fits t (order_of t) i ≡ false → Meets filling t row_backoff (suc i)
    unfolding backoff_fits
    backoff-met e = ⊎_elim (backoff_range i l) longest (and-some (in_backoff (backoff_at t i)) _ e)
      where
        longest : (not (eqb (length_of t i) (order_of t)) || eq_z (backoff_at t i) (pos 0)) ≡ false → Meets filling t row_backoff (suc i)
        longest h = go (eqb (length_of t i) (order_of t)) refl
          where
            go : (b : Bool) → eqb (length_of t i) (order_of t) ≡ b → Meets filling t row_backoff (suc i)
            go true q = backoff-longest i l (eqb-true _ _ q) (λ z. false-true h (rw (q, z) refl))
            go false q = absurd (false-true h (rw q refl))

    field-met : (f : ℕ) → field_fault t (order_of t) i ≡ suc f → Meets filling t (suc f) (suc i)
    unfolding field_fault
    field-met f e =
        ⊎_elim (λ a. met a.1 (length-met (eqb-true _ _ a.0)))
        (λ a.
        ⊎_elim (λ b. met b.1 (words-met (not-true _ b.0)))
        (λ b.
        ⊎_elim (λ c. met c.1 (row-probability i l (not-true _ c.0)))
        (λ c. ⊎_elim (λ d. met d.1 (backoff-met (not-true _ d.0))) (λ d. absurd (let z = d.1 in omega arith)) (cond-some _ row_backoff 0 f c.1))
        (cond-some _ row_probability _ f b.1))
        (cond-some _ row_words _ f a.1))
        (cond-some _ row_length _ f e)

    shorter_met : 2 ≤ length_of t i → shorter_listed filling t i ≡ false → Meets filling t shorter_row (suc i)
    unfolding shorter_listed
    shorter_met m e =
        ⊎_elim (λ a. without_first_lem i l m (no-row-before (without_firsts filling t i) a)) (λ a. without_last_lem i l m (no-row-before (without_last t i) a))
        (and-some (is_at (find_in (take (8 * i) t) (without_firsts filling t i))) _ e)

  order-met : (i : ℕ) → i < rows_of t → is_after t i ≡ false → Meets filling t row_order (suc i)
  unfolding is_after
  order-met zero l e = absurd (false-true e refl)
  order-met (suc i) l e = row-order i l e

  place-met : (i : ℕ) → i < rows_of t → (f : ℕ) → order_fault filling t i ≡ suc f → Meets filling t (suc f) (suc i)
  unfolding order_fault
  place-met i l f e =
      ⊎_elim (λ a. met i l a.1 (order-met i l (not-true _ a.0)))
      (λ a. ⊎_elim (λ b. met i l b.1 (shorter b.0)) (λ b. absurd (let z = b.1 in omega arith)) (cond-some _ shorter_row 0 f a.1))
      (cond-some _ row_order _ f e)
    where
      shorter : (leb 2 (length_of t i) && not (shorter_listed filling t i)) ≡ true → Meets filling t shorter_row (suc i)
      shorter b = shorter_met i l (leb-true _ _ (and_left _ (not (shorter_listed filling t i)) b)) (not-true _ (and_right (leb 2 (length_of t i)) _ b))

  row-met : (i : ℕ) → i < rows_of t → (f : ℕ) → row_fault filling t (order_of t) i ≡ suc f → Meets filling t (suc f) (suc i)
  unfolding row_fault
  row-met i l f e = go (field_fault t (order_of t) i) refl
    where
      go : (a : ℕ) → field_fault t (order_of t) i ≡ a → Meets filling t (suc f) (suc i)
      go zero q = place-met i l f (rw q at e)
      go (suc a) q = field-met i l f (q ∙ (rw q at e))

  table-met : table_fits (length t) ≡ false → Meets filling t table_length 0
  unfolding table_fits rows_of
  table-met e =
      ⊎_elim
      (λ a.
      ⊎_elim (λ b. table_empty (eqb-true _ _ (not-false _ b))) (λ b. table_parted (eqb-false _ _ b)) (and-some (not (eqb (length t) 0)) _ a))
      (λ a. table-long (leb-false _ _ a))
      (and-some (not (eqb (length t) 0) && eqb (length t % 8) 0) _ e)

  reserved-met : reserved_listed t ≡ false → Meets filling t reserved_word 0
  unfolding reserved_listed
  reserved-met e =
      ⊎_elim
      (λ a. ⊎_elim (λ b. no-unknown (no_row t _ b)) (λ b. no_start (no_row t _ b)) (and-some (is_at (find_in t (unknown_word ∷ []))) _ a))
      (λ a. no_end (no_row t _ a))
      (and-some (is_at (find_in t (unknown_word ∷ [])) && is_at (find_in t (start_word ∷ []))) _ e)

  -- ---- the other way: what meets the list is a fault

  -- a refusal of row i, of this number or one that is tried before it
  abbrev FaultOf : ℕ → ℕ → Type 0
  FaultOf i n = UpTo n (row_fault filling t (order_of t) i)

  module _ (i : ℕ) where
    of_fields : (n : ℕ) → UpTo n (field_fault t (order_of t) i) → FaultOf i n
    unfolding row_fault
    of_fields n h = or_first (field_fault t (order_of t) i) (order_fault filling t i) n h

    fields_most : field_fault t (order_of t) i ≤ row_backoff
    unfolding field_fault
    fields_most =
        cond-most (eqb (length_of t i) 0) row_length _ row_backoff (omega arith)
        (cond-most (not (places_fit t i 1 order_limit)) row_words _ row_backoff (omega arith)
        (cond-most (not (in_probability (probability_at t i))) row_probability _ row_backoff (omega arith)
        (cond-most (not (backoff_fits t (order_of t) i)) row_backoff 0 row_backoff (omega arith) (omega arith))))

    of_order : (n : ℕ) → row_backoff ≤ n → UpTo n (order_fault filling t i) → FaultOf i n
    unfolding row_fault
    of_order n l h = or_later (field_fault t (order_of t) i) (order_fault filling t i) n (let m = fields_most in omega arith) h

    by_length : between (pos 1) (pos order_limit) (field t i 0) ≡ false → FaultOf i row_length
    unfolding field_fault
    by_length e = of_fields row_length (cond-first (eqb (length_of t i) 0) row_length _ (omega arith) (eq-eqb _ 0 (length_none t i e)))

    by_words : places_fit t i 1 order_limit ≡ false → FaultOf i row_words
    unfolding field_fault
    by_words e =
        of_fields row_words
        (cond_later (eqb (length_of t i) 0) row_length _ row_words (omega arith) (omega arith)
        (cond-first (not (places_fit t i 1 order_limit)) row_words _ (omega arith) (ap not e)))

    by_probability : in_probability (probability_at t i) ≡ false → FaultOf i row_probability
    unfolding field_fault
    by_probability e =
        of_fields row_probability
        (cond_later (eqb (length_of t i) 0) row_length _ row_probability (omega arith) (omega arith)
        (cond_later (not (places_fit t i 1 order_limit)) row_words _ row_probability (omega arith) (omega arith)
        (cond-first (not (in_probability (probability_at t i))) row_probability _ (omega arith) (ap not e))))

    by_backoff : backoff_fits t (order_of t) i ≡ false → FaultOf i row_backoff
    unfolding field_fault
    by_backoff e =
        of_fields row_backoff
        (cond_later (eqb (length_of t i) 0) row_length _ row_backoff (omega arith) (omega arith)
        (cond_later (not (places_fit t i 1 order_limit)) row_words _ row_backoff (omega arith) (omega arith)
        (cond_later (not (in_probability (probability_at t i))) row_probability _ row_backoff (omega arith) (omega arith)
        (cond-first (not (backoff_fits t (order_of t) i)) row_backoff 0 (omega arith) (ap not e)))))

    by_order : is_after t i ≡ false → FaultOf i row_order
    unfolding order_fault
    by_order e = of_order row_order (omega arith) (cond-first (not (is_after t i)) row_order _ (omega arith) (ap not e))

    by_shorter : 2 ≤ length_of t i → shorter_listed filling t i ≡ false → FaultOf i shorter_row
    unfolding order_fault
    by_shorter m e =
        of_order shorter_row (omega arith)
        (cond_later (not (is_after t i)) row_order _ shorter_row (omega arith) (omega arith)
        (cond-first (leb 2 (length_of t i) && not (shorter_listed filling t i)) shorter_row 0 (omega arith) (and_both _ _ (le-leb 2 (length_of t i) m) (ap not e))))

  place_unmet : (i j : ℕ) → 1 ≤ j → j ≤ order_limit → place_fits t i j ≡ false → places_fit t i 1 order_limit ≡ false
  place_unmet i j s l e = false_unless _ (λ b. false-true e (place-fits t i 1 order_limit j b s (omega arith)))

  -- ---- when a refusal that meets the list is tried

  data Tried : ℕ → ℕ → Type 0 where
    at_table : table_fits (length t) ≡ false → Tried table_length 0
    at_row : (n i : ℕ) → i < rows_of t → row_length ≤ n → n ≤ shorter_row → FaultOf i n → Tried n (suc i)
    at-end : reserved_listed t ≡ false → Tried reserved_word 0

  after_told : (i : ℕ) → precedes (words t i) (words t (suc i)) ≡ false → is_after t (suc i) ≡ false
  unfolding is_after
  after_told i e = e

  first_missing : (i : ℕ) → is_at (find_in (take (8 * i) t) (without_firsts filling t i)) ≡ false → shorter_listed filling t i ≡ false
  unfolding shorter_listed
  first_missing i e = rw e refl

  last_missing : (i : ℕ) → is_at (find_in (take (8 * i) t) (without_last t i)) ≡ false → shorter_listed filling t i ≡ false
  unfolding shorter_listed
  last_missing i e = rw e (and-false (is_at (find_in (take (8 * i) t) (without_firsts filling t i))))

  reserved_missing : (is_at (find_in t (unknown_word ∷ [])) ≡ false) ⊎ ((is_at (find_in t (start_word ∷ [])) ≡ false) ⊎ (is_at (find_in t (end_word ∷ [])) ≡ false)) → reserved_listed t ≡ false
  unfolding reserved_listed
  reserved_missing (inl e) = rw e refl
  reserved_missing (inr (inl e)) = rw e (ap (λ (b : Bool). b && is_at (find_in t (end_word ∷ []))) (and-false (is_at (find_in t (unknown_word ∷ [])))))
  reserved_missing (inr (inr e)) = rw e (and-false (is_at (find_in t (unknown_word ∷ [])) && is_at (find_in t (start_word ∷ []))))

  table-parts : table_fits (length t) ≡ true → (length t ≡ 0 → ⊥) × (length t % 8 ≡ 0) × (rows_of t ≤ row_limit)
  unfolding rows_of
  table-parts e = let f = fitting_table (length t) e in let a = f.0 in let b = f.2 in (λ z. omega arith, omega arith, f.1)

  tried : (n p : ℕ) → Meets filling t n p → Tried n p
  tried _ _ (table_empty e) = at_table (false_unless _ (λ b. (table-parts b).0 e))
  tried _ _ (table_parted h) = at_table (false_unless _ (λ b. h (table-parts b).1))
  tried _ _ (table-long h) = at_table (false_unless _ (λ b. let z = (table-parts b).2 in omega arith))
  tried _ _ (row-length i l e) = at_row row_length i l (omega arith) (omega arith) (by_length i e)
  tried _ _ (used_word i j l s m e) = at_row row_words i l (omega arith) (omega arith) (by_words i (place_unmet i j s (let h = length_limit t i in omega arith) (place_used t i j m ∙ e)))
  tried _ _ (unused_word i j l m s h) =
      at_row row_words i l (omega arith) (omega arith)
      (by_words i (place_unmet i j (omega arith) s (place_unused t i j m ∙ false_unless _ (λ b. h (zero_told b)))))
  tried _ _ (row-probability i l e) = at_row row_probability i l (omega arith) (omega arith) (by_probability i e)
  tried _ _ (backoff_range i l e) = at_row row_backoff i l (omega arith) (omega arith) (by_backoff i (false_unless _ (λ b. false-true e (backoff_in t (order_of t) i b))))
  tried _ _ (backoff-longest i l m h) =
      at_row row_backoff i l (omega arith) (omega arith)
      (by_backoff i (backoff-last t (order_of t) i m ∙ false_unless _ (λ b. h (zero_told b))))
  tried _ _ (row-order i l e) = at_row row_order (suc i) l (omega arith) (omega arith) (by_order (suc i) (after_told i e))
  tried _ _ (without_first_lem i l m h) = at_row shorter_row i l (omega arith) (omega arith) (by_shorter i m (first_missing i (not-before i l _ h)))
  tried _ _ (without_last_lem i l m h) = at_row shorter_row i l (omega arith) (omega arith) (by_shorter i m (last_missing i (not-before i l _ h)))
  tried _ _ (no-unknown h) = at-end (reserved_missing (inl (not_found t _ h)))
  tried _ _ (no_start h) = at-end (reserved_missing (inr (inl (not_found t _ h))))
  tried _ _ (no_end h) = at-end (reserved_missing (inr (inr (not_found t _ h))))

  -- 1 meets no list that it lets pass
  pub table-passed : table_fits (length t) ≡ true → (n p : ℕ) → n ≡ table_length → Meets filling t n p → ⊥
  table-passed fits n p e m = go n p e (tried n p m)
    where
      go : (n p : ℕ) → n ≡ table_length → Tried n p → ⊥
      go _ _ e (at_table q) = false-true q fits
      go _ _ e (at_row n i l a b q) = omega arith
      go _ _ e (at-end q) = omega arith

  -- ---- the answer

  turn-place : (r n p : ℕ) → n ≤ shorter_row → turn r n p ≡ 10 * p + n
  unfolding turn
  turn-place r n p l = rw (ne_eqb n reserved_word (λ e. omega arith)) refl

  turn_end : (r p : ℕ) → turn r reserved_word p ≡ 10 * suc r + 9
  unfolding turn
  turn_end r p = refl

  row_number : (n p : ℕ) → Tried n p → 0 < p → n ≤ shorter_row
  row_number _ _ (at_table e) l = omega arith
  row_number _ _ (at_row n i l a b q) z = b
  row_number _ _ (at-end e) l = absurd (omega arith)

  -- all that meets the list is tried with the answer of this number and place, or later
  abbrev First : ℕ → ℕ → Type 0
  First number place = (n p : ℕ) → Tried n p → turn (rows_of t) number place ≤ turn (rows_of t) n p

  refused_by_lem : (number place : ℕ) → 0 < number → Meets filling t number place → First number place → VerdictMeans filling t number place
  refused_by_lem number place l m first = record {
    accepted = λ z. absurd (omega arith);
    no_place = λ z. absurd (omega arith);
    refused = λ z. m;
    earliest = λ n p k. first n p (tried n p k);
  }

  table-first : First table_length 0
  table-first _ _ (at_table e) = omega arith
  table-first _ _ (at_row n i l a b f) = omega (arith, turn-place (rows_of t) table_length 0 (omega arith), turn-place (rows_of t) n (suc i) b)
  table-first _ _ (at-end e) = omega (arith, turn-place (rows_of t) table_length 0 (omega arith), turn_end (rows_of t) 0)

  module _ (fits : table_fits (length t) ≡ true) where
    -- the rows before row i have no fault
    abbrev Passed : ℕ → Type 0
    Passed i = (j : ℕ) → j < i → row_fault filling t (order_of t) j ≡ 0

    row_first : (i f : ℕ) → i < rows_of t → Passed i → f ≤ shorter_row → row_fault filling t (order_of t) i ≡ f → First f (suc i)
    row_first i f l h m e _ _ (at_table q) = absurd (false-true q fits)
    row_first i f l h m e _ _ (at_row n j k a b q) =
        ⊎_elim (λ (x : j < i). absurd (let z = h j x in let y = q.0 in omega arith))
        (λ (x : i ≤ j). ⊎_elim (λ (y : i < j). omega (arith, here, there)) (λ (y : j ≤ i). same (omega arith)) (lt_or_ge i j))
        (lt_or_ge j i)
      where
        here : turn (rows_of t) f (suc i) ≡ 10 * suc i + f
        here = turn-place (rows_of t) f (suc i) m

        there : turn (rows_of t) n (suc j) ≡ 10 * suc j + n
        there = turn-place (rows_of t) n (suc j) b

        same : j ≡ i → turn (rows_of t) f (suc i) ≤ turn (rows_of t) n (suc j)
        same z = let s : row_fault filling t (order_of t) i ≤ n = subst (λ (x : ℕ). row_fault filling t (order_of t) x ≤ n) z q.1 in omega (arith, here, there)
    row_first i f l h m e _ _ (at-end q) = omega (arith, turn-place (rows_of t) f (suc i) m, turn_end (rows_of t) 0)

    end-first : Passed (rows_of t) → First reserved_word 0
    end-first h _ _ (at_table q) = absurd (false-true q fits)
    end-first h _ _ (at_row n i l a b q) = absurd (let z = h i l in let s = q.0 in omega arith)
    end-first h _ _ (at-end q) = omega arith

    all-passed : Passed (rows_of t) → reserved_listed t ≡ true → VerdictMeans filling t 0 0
    all-passed h e = record { accepted = λ z n p m. none n p (tried n p m); no_place = λ z. refl; refused = λ z. absurd (z refl); earliest = λ n p m. absurd (none n p (tried n p m)) }
      where
        none : (n p : ℕ) → Tried n p → ⊥
        none _ _ (at_table q) = false-true q fits
        none _ _ (at_row n i l a b q) = let z = h i l in let s = q.0 in omega arith
        none _ _ (at-end q) = false-true q e

    abbrev Means : Verdict → Type 0
    Means v = VerdictMeans filling t (number_of v) (place_of v)

    scan_means : (i k : ℕ) → i + k ≡ rows_of t → Passed i → Means (scan filling t (order_of t) i k)
    unfolding scan
    scan_means i zero s h = go (reserved_listed t) refl
      where
        all : Passed (rows_of t)
        all j l = h j (omega arith)

        go : (b : Bool) → reserved_listed t ≡ b → Means (cond b Accepted (Refused reserved_word 0))
        go true q = all-passed all q
        go false q = refused_by_lem reserved_word 0 (omega arith) (reserved-met q) (end-first all)
    scan_means i (suc k) s h = go (row_fault filling t (order_of t) i) refl (λ z. scan_means (suc i) k (omega arith) (more z))
      where
        more : row_fault filling t (order_of t) i ≡ 0 → Passed (suc i)
        more z j l = ⊎_elim (h j) (λ (m : i ≤ j). let w : j ≡ i = omega arith in rw w z) (lt_or_ge j i)

        go : (f : ℕ) → row_fault filling t (order_of t) i ≡ f → (row_fault filling t (order_of t) i ≡ 0 → Means (scan filling t (order_of t) (suc i) k)) → Means (refuse f i (scan filling t (order_of t) (suc i) k))
        go zero q next = next q
        go (suc f) q next =
            let l : i < rows_of t = omega arith in
            let m = row-met i l f q in
            rw (add-one i) (refused_by_lem (suc f) (suc i) (omega arith) m (row_first i (suc f) l h (row_number (suc f) (suc i) (tried _ _ m) (omega arith)) q))

  pub verdict_means : VerdictMeans filling t (number_of (verdict_for filling t)) (place_of (verdict_for filling t))
  unfolding verdict_for
  verdict_means = go (table_fits (length t)) refl
    where
      go : (b : Bool) → table_fits (length t) ≡ b → VerdictMeans filling t (number_of (cond b (scan filling t (order_of t) 0 (rows_of t)) (Refused table_length 0))) (place_of (cond b (scan filling t (order_of t) 0 (rows_of t)) (Refused table_length 0)))
      go true q = scan_means q 0 (rows_of t) (omega arith) (λ j l. absurd (not-suc-le-zero l))
      go false q = refused_by_lem table_length 0 (omega arith) (table-met q) table-first

pub check_means : (t : List ℤ) (number place : ℕ) → number ≡ number_of (verdict t) → place ≡ place_of (verdict t) → CheckMeans t number place
check_means t number place e f = rw (e, f) (record { verdict = verdict_means false t; model = λ z. accepted-model t (number-accepted t z) })

-- of a list that is accepted, and of one that is refused
pub none-meets : (filling : Bool) (t : List ℤ) → verdict_for filling t ≡ Accepted → NoneMeets filling t
none-meets filling t e = (verdict_means filling t).accepted (ap number_of e)

pub refused-verdict : (filling : Bool) (t : List ℤ) (n p : ℕ) → verdict_for filling t ≡ Refused n p → VerdictMeans filling t n p
refused-verdict filling t n p e = subst (λ (v : Verdict). VerdictMeans filling t (number_of v) (place_of v)) e (verdict_means filling t)
