-- The refusals of filling: what a list is that is filled, how the code comes to each refusal, and what a refusal means. Assumes nothing.
use Rattle.std.specs.declared.option.Option.TheVariants.{None}
use mathlib.Core.Path.{◌≡◌, refl, sym, ap, ◌∙◌, subst}
use mathlib.Core.Logic.{⊎_elim}
use mathlib.Core.Bool.{Bool, true, false, not, cond, true≢false}
use mathlib.Core.List.{List, [], ◌∷◌, ◌++◌}
use Prim.Native.Nat.{ℕ, zero, suc, ◌+◌, ◌*◌, ◌≤◌, ◌<◌}
use native.Mathlib.Nat.{not-suc-le-zero}
use native.Mathlib.Omega.{arith}
use lib.Dec.{leb}
use lib.ListN.{length}
use lib.IntN.{ℤ}
use borrow.Author.Tests.{leb-true, leb-false, le-leb, lt-leb}
use Rattle.integer.proofs.Ranges.{lt_or_ge}
use Rattle.backoff.specs.Limits.{row_limit}
use Rattle.backoff.specs.Refusal.{number_of, table_length, row_probability, short_slice}
use Rattle.backoff.specs.Model.{in_probability}
use Rattle.backoff.specs.Run.{written}
use Rattle.backoff.specs.Refusal.{Verdict}
use Rattle.backoff.specs.Refusal.{Accepted, Refused}
use Rattle.rows.specs.Table.{rows_of, words}
use Rattle.row_search.specs.Search.{find_in, is_at}
use Rattle.list.specs.Check.{refuse, verdict_for}
use Rattle.list.specs.Meaning.{NoneMeets}
use Rattle.list.proofs.Meaning.{no_row, none-meets, refused-verdict}
use Rattle.list.proofs.Check.{cond-accepted, refuse-accepted, refuse-number, accepted-refused, checked-number}
use Rattle.filled_list.specs.Filled.{without_first_words, added_probability, filled_rows, filled_table}
use Rattle.filled_list.proofs.Ascending.{In}
use Rattle.filled_list.proofs.WithoutFirstWords.{in_behind, behind_in}
use Rattle.row_ends.specs.Needed.{all_addable, needed_fault}
use Rattle.row_ends.specs.Steps.{NoneNeeding, FirstNeeding}
use Rattle.row_ends.proofs.Needed.{needed_in_range, not-addable, absent_out, fault_five}
use Rattle.filling.specs.Fill.{size_verdict, needed_scan, and_then, fill_verdict, filled_by, fill_outcome, IsFilled}
use Rattle.filling.specs.Meaning.{OutOfRange, AllInRange, FillRefusedBy, bad_list, added-probability, too_many_rows, too_short}

pub record Fills (t : List ℤ) (size : ℕ) : Type 0 where
  pub checked : verdict_for true t ≡ Accepted
  pub needed : NoneNeeding t
  pub few : length (filled_rows t) ≤ row_limit
  pub fits : 8 * length (filled_rows t) ≤ size

module _ (t : List ℤ) (size : ℕ) where
  size-accepted : size_verdict t size ≡ Accepted → (length (filled_rows t) ≤ row_limit) × (8 * length (filled_rows t) ≤ size)
  unfolding size_verdict
  size-accepted e =
      let f = cond-accepted (leb (length (filled_rows t)) row_limit) (cond (leb (8 * length (filled_rows t)) size) Accepted (Refused short_slice 0)) table_length 0 e in
      let s = cond-accepted (leb (8 * length (filled_rows t)) size) Accepted short_slice 0 f.1 in
      (leb-true (length (filled_rows t)) row_limit f.0, leb-true (8 * length (filled_rows t)) size s.0)

  needed-accepted : (i k q : ℕ) → needed_scan t size i k ≡ Accepted → i ≤ q → q < i + k → needed_fault t q ≡ 0
  unfolding needed_scan
  needed-accepted i zero q e l m = absurd (omega arith)
  needed-accepted i (suc k) q e l m =
      let p = refuse-accepted (needed_fault t i) i (needed_scan t size (suc i) k) e in
      ⊎_elim (λ o. needed-accepted (suc i) k q p.1 o (omega arith)) (λ o. let z : q ≡ i = omega arith in rw z p.0) (lt_or_ge i q)

  needed-sizes : (i k : ℕ) → needed_scan t size i k ≡ Accepted → size_verdict t size ≡ Accepted
  unfolding needed_scan
  needed-sizes i zero e = e
  needed-sizes i (suc k) e = needed-sizes (suc i) k (refuse-accepted (needed_fault t i) i (needed_scan t size (suc i) k) e).1

  then_accepted : (u v : Verdict) → and_then u v ≡ Accepted → (u ≡ Accepted) × (v ≡ Accepted)
  then_accepted Accepted v e = (refl, e)
  then_accepted (Refused n p) v e = absurd (accepted-refused n p e)

  pub fill_accepted : fill_verdict t size ≡ Accepted → Fills t size
  unfolding fill_verdict
  fill_accepted e =
      let b = then_accepted (verdict_for true t) (needed_scan t size 0 (rows_of t)) e in
      let s = size-accepted (needed-sizes 0 (rows_of t) b.1) in
      record { checked = b.0; needed = λ i l. needed-accepted 0 (rows_of t) i b.1 (omega arith) (omega arith); few = s.0; fits = s.1 }

  -- a refusal's number is never 0
  size_number : number_of (size_verdict t size) ≡ 0 → size_verdict t size ≡ Accepted
  unfolding size_verdict
  size_number = go (leb (length (filled_rows t)) row_limit) (leb (8 * length (filled_rows t)) size)
    where
      go : (b c : Bool) → number_of (cond b (cond c Accepted (Refused short_slice 0)) (Refused table_length 0)) ≡ 0 → cond b (cond c Accepted (Refused short_slice 0)) (Refused table_length 0) ≡ Accepted
      go true true e = refl
      go true false e = absurd (omega arith)
      go false c e = absurd (omega arith)

  needed-number : (i k : ℕ) → number_of (needed_scan t size i k) ≡ 0 → needed_scan t size i k ≡ Accepted
  unfolding needed_scan
  needed-number i zero e = size_number e
  needed-number i (suc k) e = refuse-number (needed_fault t i) i (needed_scan t size (suc i) k) (needed-number (suc i) k) e

  then_number : (u v : Verdict) → (number_of u ≡ 0 → u ≡ Accepted) → (number_of v ≡ 0 → v ≡ Accepted) → number_of (and_then u v) ≡ 0 → and_then u v ≡ Accepted
  then_number Accepted v f g e = g e
  then_number (Refused n p) v f g e = f e

  pub fill_number : number_of (fill_verdict t size) ≡ 0 → fill_verdict t size ≡ Accepted
  unfolding fill_verdict
  fill_number = then_number (verdict_for true t) (needed_scan t size 0 (rows_of t)) (checked-number true t) (needed-number 0 (rows_of t))

-- ---- the refusals, as the code goes through them

module _ (t : List ℤ) where
  -- by the checks of the list
  pub fill_listed : (size n p : ℕ) → Refused n p ≡ verdict_for true t → fill_verdict t size ≡ Refused n p
  unfolding fill_verdict
  fill_listed size n p e = rw (← e) refl

  module _ (size : ℕ) (a : verdict_for true t ≡ Accepted) (r : ℕ) (f : FirstNeeding t r) where
    scan_needing : (i k : ℕ) → r < rows_of t → i + k ≡ rows_of t → i ≤ r → needed_scan t size i k ≡ Refused row_probability (r + 1)
    unfolding needed_scan
    scan_needing i zero l e h = absurd (omega arith)
    scan_needing i (suc k) l e h =
        ⊎_elim
        (λ p. ap (λ (n : ℕ). refuse n i (needed_scan t size (suc i) k)) (f.none i p) ∙ scan_needing (suc i) k l (omega arith) p)
        (λ (p : r ≤ i). let z : r ≡ i = omega arith in rw (← z, f.one l))
        (lt_or_ge i r)

    scan-passing : (i k : ℕ) → r ≡ rows_of t → i + k ≡ rows_of t → needed_scan t size i k ≡ size_verdict t size
    unfolding needed_scan
    scan-passing i zero l e = refl
    scan-passing i (suc k) l e = ap (λ (n : ℕ). refuse n i (needed_scan t size (suc i) k)) (f.none i (omega arith)) ∙ scan-passing (suc i) k l (omega arith)

    fill_then : fill_verdict t size ≡ needed_scan t size 0 (rows_of t)
    unfolding fill_verdict
    fill_then = ap (λ (v : Verdict). and_then v (needed_scan t size 0 (rows_of t))) a

    pub fill-five : r < rows_of t → fill_verdict t size ≡ Refused row_probability (r + 1)
    fill-five l = fill_then ∙ scan_needing 0 (rows_of t) l (omega arith) (omega arith)

    module _ (e : r ≡ rows_of t) (count : ℕ) (c : count ≡ length (filled_rows t)) where
      sized : fill_verdict t size ≡ size_verdict t size
      sized = fill_then ∙ scan-passing 0 (rows_of t) e (omega arith)

      pub fill-many : row_limit < count → fill_verdict t size ≡ Refused table_length 0
      unfolding size_verdict
      fill-many l = sized ∙ rw (lt-leb (length (filled_rows t)) row_limit (omega arith))

      module _ (few : count ≤ row_limit) where
        pub fill-short : size < 8 * count → fill_verdict t size ≡ Refused short_slice 0
        unfolding size_verdict
        fill-short l = sized ∙ rw (le-leb (length (filled_rows t)) row_limit (omega arith), lt-leb (8 * length (filled_rows t)) size (omega arith))

        pub fill-none : 8 * count ≤ size → fill_verdict t size ≡ Accepted
        unfolding size_verdict
        fill-none l = sized ∙ rw (le-leb (length (filled_rows t)) row_limit (omega arith), le-leb (8 * length (filled_rows t)) size (omega arith))

-- where the p of each row of the filled list is known to be in range, no row needs another
pub needing-none : (t : List ℤ) (fits : Bool) → (fits ≡ true → NoneNeeding t) → not fits ≡ false → FirstNeeding t (rows_of t)
needing-none t true h e = record { within = omega arith; none = h refl; one = λ l. absurd (omega arith) }
needing-none t false h e = absurd (true≢false e)

-- ---- what a refusal means

module _ (t : List ℤ) where
  -- 5 at row i, and that no row needs a p outside its range
  out_of_range : (i : ℕ) → i < rows_of t → all_addable t (without_first_words (words t i)) ≡ false → OutOfRange t i
  out_of_range i l e =
      let r = not-addable t (without_first_words (words t i)) e in
      let o = absent_out t r.0 r.2 in
      let b = in_behind (words t i) r.0 r.1 in
      record {
        ws = r.0;
        p = added_probability t r.0;
        added = record { at = i; within = l; front = b.first ∷ b.front; same = b.same; two = b.two; absent = o.0; probability-is = refl; backoff-is = refl };
        needed = refl;
        outside = o.1;
      }

  fault_out : (i : ℕ) → i < rows_of t → (needed_fault t i ≡ 0 → ⊥) → OutOfRange t i
  unfolding needed_fault
  fault_out i l n = go (all_addable t (without_first_words (words t i))) refl n
    where
      go : (b : Bool) → all_addable t (without_first_words (words t i)) ≡ b → (cond b 0 row_probability ≡ 0 → ⊥) → OutOfRange t i
      go true q h = absurd (h refl)
      go false q h = out_of_range i l q

  pub front-word : (ws front : List ℕ) (i : ℕ) → i < rows_of t → words t i ≡ front ++ ws → 2 ≤ length ws → find_in t ws ≡ None → In ws (without_first_words (words t i))
  front-word ws [] i l e two n = absurd (no_row t ws (ap is_at n) i l e)
  front-word ws (v ∷ front) i l e two n = rw e (behind_in front v ws two)

  passed_in_range : (i : ℕ) → needed_fault t i ≡ 0 → OutOfRange t i → ⊥
  passed_in_range i e o =
      let a = o.added in
      let within : i < rows_of t = subst (λ (j : ℕ). j < rows_of t) o.needed a.within in
      let same : words t i ≡ a.front ++ o.ws = ap (words t) (sym o.needed) ∙ a.same in
      let m = front-word o.ws a.front i within same a.two a.absent in
      true≢false (sym (needed_in_range t i o.ws e m a.absent) ∙ ap in_probability a.probability-is ∙ o.outside)

module _ (t second : List ℤ) (none : NoneMeets true t) where
  -- no row before row i needs a p outside its range
  abbrev Passed : ℕ → Type 0
  Passed i = (j : ℕ) → j < i → needed_fault t j ≡ 0

  first_out : (i : ℕ) → Passed i → (j : ℕ) → OutOfRange t j → i ≤ j
  first_out i h j o = ⊎_elim (λ (l : j < i). absurd (passed_in_range t j (h j l) o)) (λ (l : i ≤ j). l) (lt_or_ge j i)

  all_in_range : Passed (rows_of t) → AllInRange t
  all_in_range h i o = let l = o.added.within in let z = o.needed in passed_in_range t i (h i (omega arith)) o

  sizes_told : AllInRange t → (n p : ℕ) → size_verdict t (length second) ≡ Refused n p → FillRefusedBy t second n p
  unfolding size_verdict
  sizes_told all n p e = go (leb (length (filled_rows t)) row_limit) refl (leb (8 * length (filled_rows t)) (length second)) refl e
    where
      go : (b : Bool) → leb (length (filled_rows t)) row_limit ≡ b → (c : Bool) → leb (8 * length (filled_rows t)) (length second) ≡ c → cond b (cond c Accepted (Refused short_slice 0)) (Refused table_length 0) ≡ Refused n p → FillRefusedBy t second n p
      go true q true r h = absurd (accepted-refused n p (sym h))
      go true q false r h = let x : short_slice ≡ n = cc in let y : 0 ≡ p = cc in rw (← x, ← y) (too_short none all (leb-true _ _ q) (leb-false _ _ r))
      go false q c r h = let x : table_length ≡ n = cc in let y : 0 ≡ p = cc in rw (← x, ← y) (too_many_rows none all (leb-false _ _ q))

  needed_told : (i f : ℕ) → i < rows_of t → Passed i → needed_fault t i ≡ suc f → FillRefusedBy t second (suc f) (suc i)
  needed_told i f l h e =
      let some : needed_fault t i ≡ 0 → ⊥ = λ z. omega arith in
      rw (sym e ∙ fault_five t i some) (added-probability none i (fault_out t i l some) (first_out i h))

  scan_told : (i k n p : ℕ) → i + k ≡ rows_of t → Passed i → needed_scan t (length second) i k ≡ Refused n p → FillRefusedBy t second n p
  unfolding needed_scan
  scan_told i zero n p s h e = sizes_told (all_in_range (λ j l. h j (omega arith))) n p e
  scan_told i (suc k) n p s h e = go (needed_fault t i) refl e (λ z. scan_told (suc i) k n p (omega arith) (more z))
    where
      more : needed_fault t i ≡ 0 → Passed (suc i)
      more z j l = ⊎_elim (h j) (λ (m : i ≤ j). let w : j ≡ i = omega arith in rw w z) (lt_or_ge j i)

      go : (f : ℕ) → needed_fault t i ≡ f → refuse f i (needed_scan t (length second) (suc i) k) ≡ Refused n p → (needed_fault t i ≡ 0 → needed_scan t (length second) (suc i) k ≡ Refused n p → FillRefusedBy t second n p) → FillRefusedBy t second n p
      go zero q r ih = ih q r
      go (suc f) q r ih = let x : suc f ≡ n = cc in let y : i + 1 ≡ p = cc in let z : suc i ≡ p = omega arith in rw (← x, ← z) (needed_told i f (omega arith) h q)

pub refused_told : (t second : List ℤ) (n p : ℕ) → (n ≡ 0 → ⊥) → fill_verdict t (length second) ≡ Refused n p → FillRefusedBy t second n p
unfolding fill_verdict
refused_told t second n p some e = go (verdict_for true t) refl e
  where
    go : (v : Verdict) → verdict_for true t ≡ v → and_then v (needed_scan t (length second) 0 (rows_of t)) ≡ Refused n p → FillRefusedBy t second n p
    go Accepted q h = scan_told t second (none-meets true t q) 0 (rows_of t) n p (omega arith) (λ j l. absurd (not-suc-le-zero l)) h
    go (Refused m k) q h = bad_list n p some (refused-verdict true t n p (q ∙ h))

-- ---- the outcome

module _ (t second : List ℤ) where
  outcome_by : (v : Verdict) → fill_verdict t (length second) ≡ v → filled_by t second v ≡ fill_outcome t second
  unfolding fill_outcome
  outcome_by v e = ap (filled_by t second) (sym e)

  pub outcome_refused : (n p : ℕ) → fill_verdict t (length second) ≡ Refused n p → IsFilled (fill_outcome t second) n p 0 second
  outcome_refused n p e = rw (← outcome_by (Refused n p) e) (record { number_is = refl; place_is = refl; rows_are = refl; table_is = refl })

  pub outcome_accepted : fill_verdict t (length second) ≡ Accepted → (rows : ℕ) → rows ≡ length (filled_rows t) → (filled : List ℤ) → filled ≡ written (filled_table t) second → IsFilled (fill_outcome t second) 0 0 rows filled
  outcome_accepted v rows r filled e = rw (← outcome_by Accepted v) (record { number_is = refl; place_is = refl; rows_are = r; table_is = e })
