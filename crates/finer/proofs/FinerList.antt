-- Laws of specs/FinerList.antt: a list that is multiplied has the same rows in the same order, so it is accepted or refused as the list is where both p and b stay
-- in their ranges, and its model is the list's, multiplied. Assumes nothing.
use Rattle.std.specs.declared.option.Option.{Option}
use Rattle.std.specs.declared.option.Option.TheVariants.{Some, None}
use mathlib.Core.Path.{◌≡◌, refl, sym, ap, ap₂, ◌∙◌}
use mathlib.Core.Bool.{Bool, true, false, cond, ◌&&◌}
use mathlib.Core.List.{List, [], ◌∷◌, reverse}
use Prim.Native.Nat.{ℕ, zero, suc, ◌+◌, ◌*◌, ◌-◌, ◌/◌, ◌%◌, ◌≤◌, ◌<◌}
use native.Mathlib.Omega.{arith}
use lib.Dec.{leb}
use lib.IntN.{ℤ, pos, neg_ℤ}
use lib.ListN.{length, get_or, take, drop, length-take}
use borrow.Author.Tests.{le-leb, lt-leb}
use Rattle.integer.specs.Integer.{up_to, or_else}
use Rattle.integer.proofs.Arithmetic.{zarith, mul}
use Rattle.integer.proofs.Ranges.{between-low, between-high, between-yes}
use Rattle.backoff.specs.Limits.{order_limit, least_probability, largest_backoff, unknown_word, start_word, end_word}
use Rattle.backoff.specs.Words.{same_words}
use Rattle.backoff.specs.Model.{in_probability, in_backoff}
use Rattle.backoff.specs.Refusal.{word_count}
use Rattle.backoff.specs.Refusal.{Verdict}
use Rattle.backoff.proofs.Model.{model_ext}
use Rattle.rows.specs.Table.{rows_of, field, probability_at, backoff_at, length_of, order_of, words_of, words, without_first, without_last, last_word}
use Rattle.rows.specs.Order.{precedes}
use Rattle.rows.proofs.Table.{length_limit, same-places}
use Rattle.row_search.specs.Search.{find_below, find_in, is_at}
use Rattle.row_fields.specs.Fields.{backoff_fits, field_fault}
use Rattle.rows_before.specs.Faults.{is_after, without_firsts, shorter_listed, order_fault, row_fault}
use Rattle.list.specs.Check.{reserved_listed, refuse, scan, verdict_for}
use Rattle.list.specs.ListModel.{any_below, extended_in, continued_in, entry_at, model_of}
use Rattle.lookup.specs.Lookup.{Refused as NoLookup}
use Rattle.build.specs.Listed.{answer_at, listed_answer}
use Rattle.finer.specs.Times.{times, times_entry, times_model}
use Rattle.finer.specs.FinerList.{times_from, times_list, OlderPoints, taken_over, times_lookup}
use Rattle.finer.proofs.Products.{times_zero, times_none}

-- ---- numbers of a table

module _ (k : ℕ) where
  length-times_from : (j : ℕ) (t : List ℤ) → length (times_from k j t) ≡ length t
  unfolding times_from
  length-times_from j [] = refl
  length-times_from j (z ∷ t) = ap suc (length-times_from (suc j) t)

  take-times_from : (j n : ℕ) (t : List ℤ) → take n (times_from k j t) ≡ times_from k j (take n t)
  unfolding times_from
  take-times_from j zero t = refl
  take-times_from j (suc n) [] = refl
  take-times_from j (suc n) (z ∷ t) = ap (λ (l : List ℤ). cond (leb 6 (j % 8)) (times k z) z ∷ l) (take-times_from (suc j) n t)

  drop-times_from : (j n : ℕ) (t : List ℤ) → drop n (times_from k j t) ≡ times_from k (j + n) (drop n t)
  unfolding times_from
  drop-times_from j zero t = let e : j + 0 ≡ j = omega arith in rw e refl
  drop-times_from j (suc n) [] = refl
  drop-times_from j (suc n) (z ∷ t) = let e : j + suc n ≡ suc j + n = omega arith in rw e (drop-times_from (suc j) n t)

  get_or-times_from : (j i : ℕ) (t : List ℤ) → get_or (times_from k j t) i (pos 0) ≡ cond (leb 6 ((j + i) % 8)) (times k (get_or t i (pos 0))) (get_or t i (pos 0))
  unfolding times_from
  get_or-times_from j i [] = go (leb 6 ((j + i) % 8))
    where
      go : (b : Bool) → pos 0 ≡ cond b (times k (pos 0)) (pos 0)
      go true = sym (times_zero k)
      go false = refl
  get_or-times_from j zero (z ∷ t) = let e : j + 0 ≡ j = omega arith in rw e refl
  get_or-times_from j (suc i) (z ∷ t) = let e : j + suc i ≡ suc j + i = omega arith in rw e (get_or-times_from (suc j) i t)

  -- numbers before a p stay
  words_stay : (j : ℕ) (zs : List ℤ) → j % 8 + length zs ≤ 6 → times_from k j zs ≡ zs
  unfolding times_from
  words_stay j [] h = refl
  words_stay j (z ∷ zs) h = rw (lt-leb 6 (j % 8) (omega arith)) (ap (λ (l : List ℤ). z ∷ l) (words_stay (suc j) zs (omega arith)))

-- ---- rows

module _ (k : ℕ) (t : List ℤ) where
  abbrev u : List ℤ
  u = times_list k t

  pub length-times : length u ≡ length t
  unfolding times_list
  length-times = length-times_from k 0 t

  pub rows-times : rows_of u ≡ rows_of t
  unfolding rows_of
  rows-times = ap (λ (n : ℕ). n / 8) length-times

  field_stays : (i j : ℕ) → j < 6 → field u i j ≡ field t i j
  unfolding field times_list
  field_stays i j h = let e : leb 6 ((0 + (8 * i + j)) % 8) ≡ false = lt-leb 6 ((0 + (8 * i + j)) % 8) (omega arith) in get_or-times_from k 0 (8 * i + j) t ∙ rw e refl

  field-times : (i j : ℕ) → 6 ≤ j → j < 8 → field u i j ≡ times k (field t i j)
  unfolding field times_list
  field-times i j l h = let e : leb 6 ((0 + (8 * i + j)) % 8) ≡ true = le-leb 6 ((0 + (8 * i + j)) % 8) (omega arith) in get_or-times_from k 0 (8 * i + j) t ∙ rw e refl

  length_of-times : (i : ℕ) → length_of u i ≡ length_of t i
  unfolding length_of
  length_of-times i = ap (up_to (pos order_limit)) (field_stays i 0 (omega arith))

  pub order_of-times : order_of u ≡ order_of t
  unfolding order_of
  order_of-times = length_of-times (rows_of u - 1) ∙ ap (λ (n : ℕ). length_of t (n - 1)) rows-times

  -- words stay
  part_stays : (a m : ℕ) → a % 8 + m ≤ 6 → take m (drop a u) ≡ take m (drop a t)
  unfolding times_list
  part_stays a m h =
      ap (take m) (drop-times_from k 0 a t) ∙ take-times_from k (0 + a) m (drop a t)
      ∙ words_stay k (0 + a) (take m (drop a t)) (omega (arith, length-take m (drop a t)))

  pub words-times : words u ≡ words t
  unfolding words
  words-times = λ p i. (ap (λ (n : ℕ). words_of (take n (drop (8 * i + 1) u))) (length_of-times i) ∙ ap words_of (part_stays (8 * i + 1) (length_of t i) (omega (arith, length_limit t i)))) p

  without_first-times : without_first u ≡ without_first t
  unfolding without_first
  without_first-times = λ p i.
      (ap (λ (n : ℕ). words_of (take (n - 1) (drop (8 * i + 2) u))) (length_of-times i) ∙ ap words_of (part_stays (8 * i + 2) (length_of t i - 1) (omega (arith, length_limit t i)))) p

  without_last-times : without_last u ≡ without_last t
  unfolding without_last
  without_last-times = λ p i.
      (ap (λ (n : ℕ). words_of (take (n - 1) (drop (8 * i + 1) u))) (length_of-times i) ∙ ap words_of (part_stays (8 * i + 1) (length_of t i - 1) (omega (arith, length_limit t i)))) p

  last_word-times : (i : ℕ) → last_word u i ≡ last_word t i
  unfolding last_word
  last_word-times i = ap (λ (n : ℕ). words_of (take 1 (drop (8 * i + n) u))) (length_of-times i) ∙ ap words_of (part_stays (8 * i + length_of t i) 1 (omega (arith, length_limit t i)))

  -- ---- what is found

  find_below-times : (ws : List ℕ) (n : ℕ) → find_below u ws n ≡ find_below t ws n
  unfolding find_below
  find_below-times ws zero = refl
  find_below-times ws (suc n) = ap₂ (λ (f : ℕ → List ℕ) (r : Option ℕ). cond (same_words (f n) ws) (Some n) r) words-times (find_below-times ws n)

  find_in-times : (ws : List ℕ) → find_in u ws ≡ find_in t ws
  unfolding find_in
  find_in-times ws = find_below-times ws (rows_of u) ∙ ap (find_below t ws) rows-times

  extended_in-times : (ws : List ℕ) → extended_in u ws ≡ extended_in t ws
  unfolding extended_in
  extended_in-times ws = ap₂ (λ (f : ℕ → List ℕ) (n : ℕ). any_below f ws n) without_first-times rows-times

  continued_in-times : (ws : List ℕ) → continued_in u ws ≡ continued_in t ws
  unfolding continued_in
  continued_in-times ws = ap₂ (λ (f : ℕ → List ℕ) (n : ℕ). any_below f ws n) without_last-times rows-times

  entry_times : (ws : List ℕ) (r : Option ℕ) → entry_at u ws r ≡ times_entry k (entry_at t ws r)
  entry_times ws (Some i) = rw (field-times i 6 (omega arith) (omega arith), field-times i 7 (omega arith) (omega arith), extended_in-times ws, continued_in-times ws) refl
  entry_times ws None = refl

  -- the model of the one is the other's with p and b multiplied
  pub model-times : model_of u ≡ times_model k (model_of t)
  unfolding model_of times_model
  model-times =
      model_ext _ _ order_of-times
      (λ l. ap (entry_at u (reverse l)) (find_in-times (reverse l)) ∙ entry_times (reverse l) (find_in t (reverse l)))

-- the rows ahead of a row are multiplied with the others
part_times : (k n : ℕ) (t : List ℤ) → take n (times_list k t) ≡ times_list k (take n t)
unfolding times_list
part_times k n t = take-times_from k 0 n t

-- ---- the verdict

-- p and b are in range after multiplying where they were before, and only there
pub record SameRanges (k : ℕ) (t : List ℤ) : Type 0 where
  pub in_probability_lem : (i : ℕ) → i < rows_of t → in_probability (times k (probability_at t i)) ≡ in_probability (probability_at t i)
  pub in_backoff_lem : (i : ℕ) → i < rows_of t → in_backoff (times k (backoff_at t i)) ≡ in_backoff (backoff_at t i)

module _ (k : ℕ) (some-k : 0 < k) (t : List ℤ) (R : SameRanges k t) where
  abbrev v : List ℤ
  v = times_list k t

  backoff_fits-times : (n i : ℕ) → i < rows_of t → backoff_fits v n i ≡ backoff_fits t n i
  unfolding backoff_fits
  backoff_fits-times n i h =
      rw (field-times k t i 7 (omega arith) (omega arith), length_of-times k t i, R.in_backoff_lem i h, times_none k some-k (backoff_at t i)) refl

  field_fault-times : (n i : ℕ) → i < rows_of t → field_fault v n i ≡ field_fault t n i
  unfolding field_fault
  field_fault-times n i h =
      rw (length_of-times k t i, same-places v t i i (field_stays k t i) 1 order_limit (omega arith), field-times k t i 6 (omega arith) (omega arith), R.in_probability_lem i h, backoff_fits-times n i h) refl

  is_after-times : (i : ℕ) → is_after v i ≡ is_after t i
  unfolding is_after
  is_after-times zero = refl
  is_after-times (suc i) = ap (λ (f : ℕ → List ℕ). precedes (f i) (f (suc i))) (words-times k t)

  without_firsts-times : (filling : Bool) (i : ℕ) → without_firsts filling v i ≡ without_firsts filling t i
  unfolding without_firsts
  without_firsts-times false i = ap (λ (f : ℕ → List ℕ). f i) (without_first-times k t)
  without_firsts-times true i = last_word-times k t i

  ahead : (i : ℕ) (ws : List ℕ) → find_in (take (8 * i) v) ws ≡ find_in (take (8 * i) t) ws
  ahead i ws = ap (λ (l : List ℤ). find_in l ws) (part_times k (8 * i) t) ∙ find_in-times k (take (8 * i) t) ws

  shorter_listed-times : (filling : Bool) (i : ℕ) → shorter_listed filling v i ≡ shorter_listed filling t i
  unfolding shorter_listed
  shorter_listed-times filling i =
      ap₂ (λ (a b : Option ℕ). is_at a && is_at b)
      (ahead i (without_firsts filling v i) ∙ ap (find_in (take (8 * i) t)) (without_firsts-times filling i))
      (ahead i (without_last v i) ∙ ap (λ (f : ℕ → List ℕ). find_in (take (8 * i) t) (f i)) (without_last-times k t))

  order_fault-times : (filling : Bool) (i : ℕ) → order_fault filling v i ≡ order_fault filling t i
  unfolding order_fault
  order_fault-times filling i = rw (is_after-times i, length_of-times k t i, shorter_listed-times filling i) refl

  row_fault-times : (filling : Bool) (n i : ℕ) → i < rows_of t → row_fault filling v n i ≡ row_fault filling t n i
  unfolding row_fault
  row_fault-times filling n i h = ap₂ or_else (field_fault-times n i h) (order_fault-times filling i)

  reserved_listed-times : reserved_listed v ≡ reserved_listed t
  unfolding reserved_listed
  reserved_listed-times = rw (find_in-times k t (unknown_word ∷ []), find_in-times k t (start_word ∷ []), find_in-times k t (end_word ∷ [])) refl

  scan-times : (filling : Bool) (n i r : ℕ) → i + r ≤ rows_of t → scan filling v n i r ≡ scan filling t n i r
  unfolding scan
  scan-times filling n i zero h = rw reserved_listed-times refl
  scan-times filling n i (suc r) h =
      ap₂ (λ (f : ℕ) (w : Verdict). refuse f i w) (row_fault-times filling n i (omega arith)) (scan-times filling n (suc i) r (omega arith))

  -- the list that is multiplied is accepted, or refused by the same number at the same row
  pub verdict-times : (filling : Bool) → verdict_for filling v ≡ verdict_for filling t
  unfolding verdict_for
  verdict-times filling =
      rw (length-times k t, order_of-times k t, rows-times k t, scan-times filling (order_of t) 0 (rows_of t) (omega arith)) refl

-- ---- a list in the older points

-- a hundred times the older ranges are the finer ones
older_ranges : (t : List ℤ) → OlderPoints t → SameRanges 100 t
unfolding in_probability in_backoff
older_ranges t O = record {
  in_probability_lem = λ i h.
      let p = probability_at t i in
      let low = between-low (neg_ℤ (pos 990000)) (pos 0) p (O.probabilities i h) in
      let high = between-high (neg_ℤ (pos 990000)) (pos 0) p (O.probabilities i h) in
      between-yes least_probability (pos 0) (times 100 p) (omega (zarith, mul 100 p)) (omega (zarith, mul 100 p))
      ∙ sym (between-yes least_probability (pos 0) p (omega zarith) (omega zarith));
  in_backoff_lem = λ i h.
      let b = backoff_at t i in
      let low = between-low (neg_ℤ (pos 990000)) (pos 990000) b (O.backoffs i h) in
      let high = between-high (neg_ℤ (pos 990000)) (pos 990000) b (O.backoffs i h) in
      between-yes (neg_ℤ (pos largest_backoff)) (pos largest_backoff) (times 100 b) (omega (zarith, mul 100 b)) (omega (zarith, mul 100 b))
      ∙ sym (between-yes (neg_ℤ (pos largest_backoff)) (pos largest_backoff) b (omega zarith) (omega zarith));
}

pub taken_over-verdict : (t : List ℤ) → OlderPoints t → (filling : Bool) → verdict_for filling (taken_over t) ≡ verdict_for filling t
taken_over-verdict t O filling = verdict-times 100 (omega arith) t (older_ranges t O) filling

pub taken_over-model : (t : List ℤ) → model_of (taken_over t) ≡ times_model 100 (model_of t)
taken_over-model t = model-times 100 t

-- ---- lookups

answer-times : (k : ℕ) (t : List ℤ) (ws : List ℕ) (r : Option ℕ) → answer_at (times_list k t) ws r ≡ times_lookup k (answer_at t ws r)
answer-times k t ws (Some i) = rw (field-times k t i 6 (omega arith) (omega arith), field-times k t i 7 (omega arith) (omega arith), extended_in-times k t ws) refl
answer-times k t ws None = refl

pub lookup_times : (k : ℕ) (t : List ℤ) (ws : List ℕ) → listed_answer (times_list k t) ws ≡ times_lookup k (listed_answer t ws)
unfolding listed_answer
lookup_times k t ws = go (leb 1 (length ws) && leb (length ws) order_limit)
  where
    go : (b : Bool) → cond b (answer_at (times_list k t) ws (find_in (times_list k t) ws)) (NoLookup word_count 0) ≡ times_lookup k (cond b (answer_at t ws (find_in t ws)) (NoLookup word_count 0))
    go true = ap (answer_at (times_list k t) ws) (find_in-times k t ws) ∙ answer-times k t ws (find_in t ws)
    go false = refl
