-- The sheet's outcome from what the code finds: refused early, some sentence refused, or all scored and counted. Assumes nothing.
use Rattle.std.specs.declared.option.Option.{Option}
use Rattle.std.specs.declared.result.Result.{Result}
use Rattle.std.specs.declared.result.Result.TheVariants.{Ok, Err}
use Rattle.std.specs.Result.{IsErrAnd}
use Rattle.backoff.specs.declared.Refusal.{Refusal as CallRefusal}
use mathlib.Core.Path.{◌≡◌, refl, sym, ap, ◌∙◌}
use mathlib.Core.Bool.{Bool, true, false}
use mathlib.Core.List.{List}
use Prim.Native.Nat.{ℕ, ◌+◌, ◌≤◌}
use native.Mathlib.Omega.{arith}
use lib.ListN.{length, take, drop, replicate, length-replicate, length-append}
use lib.Seq.{take_at}
use lib.IntN.{ℤ, pos}
use lib.Dec.{eqb}
use borrow.Author.Tests.{eq-eqb, ne_eqb, eqb-true}
use Rattle.backoff.specs.Refusal.{reason_number, array_head, sentence_end}
use Rattle.backoff.specs.Run.{Run, written}
use Rattle.backoff.specs.Store.{Store}
use Rattle.double_array.specs.DoubleArray.{is_array, opened}
use Rattle.double_array.proofs.DoubleArray.{opened_some, opened-none}
use Rattle.sentence_ends.specs.Ends.{Refusal, last_end, bad_end, early_refusal}
use Rattle.sentence_ends.proofs.Ends.{good-within, Fits, fits}
use Rattle.stretches.specs.declared.Scored.{Scored}
use Rattle.stretches.specs.Stretches.{sentences, word_bytes, closing_bytes, first_refused}
use Rattle.stretches.specs.Inner.{AllScored, OneRefused}
use Rattle.batch.specs.declared.Sheet.{Sheet}
use Rattle.batch.specs.Sheet.{met, Outcome, unknown_of, matched_of, refused_sheet, broken_sheet, accepted_sheet, scored_sheet, sheet_outcome}
use Rattle.batch.specs.Inner.{sheet_of, bytes_sheet}

-- ---- nothing comes early, or something does

-- what is known where nothing comes early
pub record Passed (base check : List ℤ) (ends : List ℕ) (r : Run) : Type 0 where
  pub array : is_array base check ≡ true
  pub ends-good : bad_end (length r.words) 1 0 ends ≡ 0
  pub sizes : Fits (length r.words) (length ends) (last_end 0 ends) (length r.points) (length r.lengths)

pub passed : (base check : List ℤ) (ends : List ℕ) (r : Run) → (met (opened base check) ends r).number ≡ 0 → Passed base check ends r
unfolding met
passed base check ends r = go (is_array base check) refl (eqb (bad_end (length r.words) 1 0 ends) 0) refl
  where
    go : (b : Bool) → is_array base check ≡ b → (c : Bool) → eqb (bad_end (length r.words) 1 0 ends) 0 ≡ c → (early_refusal (opened base check) (length r.words) ends (length r.points) (length r.lengths)).number ≡ 0 → Passed base check ends r
    go false e c f z = let q : array_head ≡ 0 = rw (opened-none base check e) at z in absurd (omega arith)
    go true e false f z = let q : sentence_end ≡ 0 = rw (opened_some base check e, f) at z in absurd (omega arith)
    go true e true f z = record { array = e; ends-good = eqb-true _ _ f; sizes = fits _ _ _ _ _ (rw (opened_some base check e, f) at z) }

-- so the last end lies in the words
pub last_within : (base check : List ℤ) (ends : List ℕ) (r : Run) → Passed base check ends r → last_end 0 ends ≤ length r.words
last_within base check ends r p = good-within (length r.words) 0 0 ends (omega arith) p.ends-good

module _ (o : Option Store) (ends : List ℕ) (r : Run) where
  abbrev rs : List Run
  rs = sentences 0 ends r

  module _ (f : Refusal) (f-is : f ≡ early_refusal o (length r.words) ends (length r.points) (length r.lengths)) where
    met-is : f ≡ met o ends r
    unfolding met
    met-is = f-is

    pub early_outcome : (f.number ≡ 0 → ⊥) → (s : Sheet) → s ≡ refused_sheet f.number f.place → record { sheet = s; points = r.points; lengths = r.lengths } ≡ sheet_outcome o ends r
    unfolding sheet_outcome
    early_outcome n s q = rw (sym met-is, ne_eqb f.number 0 n, q)

    pub none-met : f.number ≡ 0 → (met o ends r).number ≡ 0
    none-met e = sym (ap (λ (x : Refusal). x.number) met-is) ∙ e

    pub late_outcome : f.number ≡ 0 → (x : Outcome) → x ≡ scored_sheet o ends r → x ≡ sheet_outcome o ends r
    unfolding sheet_outcome
    late_outcome e x q = rw (eq-eqb (met o ends r).number 0 (none-met e), q)

  -- ---- 12

  pub refused_outcome_lem : (k : ℕ) (points : List ℤ) (lengths : List ℕ) → OneRefused o ends r k points lengths → (s : Sheet) → s ≡ refused_sheet 12 (k + 1)
      → (ps : List ℤ) → ps ≡ written (replicate (last_end 0 ends) (pos 0)) points → (bs : List ℕ) → bs ≡ written (replicate (last_end 0 ends) 0) lengths
      → record { sheet = s; points = ps; lengths = bs } ≡ scored_sheet o ends r
  unfolding scored_sheet broken_sheet written
  refused_outcome_lem k points lengths u s q ps p bs b =
      let f : first_refused o 1 rs ≡ k + 1 = omega (arith, u.refused-is) in
      rw (f, ne_eqb (k + 1) 0 (λ z. omega arith), q, p, b, length-replicate (last_end 0 ends) (pos 0), length-replicate {A = ℕ} (last_end 0 ends) 0, u.points-past, u.lengths-past)

  -- ---- all sentences

  module _ (scored : Scored) (points : List ℤ) (lengths : List ℕ) (u : AllScored o ends r scored points lengths) (long : length (word_bytes o rs) ≡ last_end 0 ends) where
    pub lengths-reach : last_end 0 ends ≤ length lengths
    lengths-reach = rw u.lengths_are (omega (arith, length-append (word_bytes o rs) (drop (last_end 0 ends) r.lengths), long))

    -- the bytes that are counted last are the words'
    counted-bytes : take (last_end 0 ends) lengths ≡ word_bytes o rs
    counted-bytes = ap (take (last_end 0 ends)) u.lengths_are ∙ take_at (word_bytes o rs) _ (last_end 0 ends) long

    pub all_outcome : (x : ℤ) → x ≡ scored.total → (s : Sheet) → s ≡ bytes_sheet (length ends) (last_end 0 ends) x (closing_bytes o rs) (take (last_end 0 ends) lengths) → record { sheet = s; points = points; lengths = lengths } ≡ scored_sheet o ends r
    unfolding scored_sheet accepted_sheet unknown_of matched_of
    all_outcome x y s q = rw (u.none-refused, q, counted-bytes, y, u.total-is, u.points_are, u.lengths_are)

-- ---- the steps of the code

pub pass-of : (base check : List ℤ) (ends : List ℕ) (r : Run) → record { number = 0; place = 0 } ≡ early_refusal (opened base check) (length r.words) ends (length r.points) (length r.lengths) → Passed base check ends r
pass-of base check ends r e = passed base check ends r (none-met (opened base check) ends r (record { number = 0; place = 0 }) e refl)

pub sheet-refused : (x : Result Sheet (CallRefusal ℕ)) (e : CallRefusal ℕ) → IsErrAnd x (λ w. w ≡ e) → sheet_of x ≡ refused_sheet (reason_number e.reason) e.place
sheet-refused (Ok s) e h = absurd h
sheet-refused (Err w) e h = rw h

-- 11
pub array-refused : (base check : List ℤ) (ends : List ℕ) (r : Run) → is_array base check ≡ false → (s : Sheet) → s ≡ refused_sheet array_head 0 → record { sheet = s; points = r.points; lengths = r.lengths } ≡ sheet_outcome (opened base check) ends r
array-refused base check ends r e = early_outcome (opened base check) ends r (record { number = array_head; place = 0 }) (rw (opened-none base check e)) (λ z. omega arith)
