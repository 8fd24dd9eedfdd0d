-- The outcome means what specs/Meaning.antt says, over any lent arrays. Assumes nothing.
use Rattle.std.specs.declared.option.Option.{Option}
use mathlib.Core.Path.{◌≡◌, refl}
use mathlib.Core.Bool.{Bool, true, false, cond}
use mathlib.Core.List.{List}
use Prim.Native.Nat.{ℕ, ◌+◌}
use native.Mathlib.Omega.{arith}
use lib.ListN.{length, take, replicate, length-replicate}
use lib.Seq.{drop_at, take_at}
use lib.IntN.{ℤ, pos}
use lib.Dec.{eqb}
use borrow.Author.Tests.{eq-eqb, eqb-true, eqb-false}
use Rattle.backoff.specs.Run.{Run, written}
use Rattle.backoff.specs.Store.{Store}
use Rattle.double_array.specs.DoubleArray.{opened}
use Rattle.sentence_ends.specs.Ends.{last_end}
use Rattle.stretches.specs.Stretches.{sentences, word_points, word_bytes, total_of, first_refused}
use Rattle.stretches.proofs.Stretches.{points-long, bytes-long}
use Rattle.stretches.proofs.FirstRefused.{none-refused}
use Rattle.stretches.proofs.MatchedLengths.{five-words, five_closing}
use Rattle.batch.specs.Sheet.{unknown_of, matched_of, met, Outcome, refused_sheet, broken_sheet, full_sheet, accepted_sheet, scored_sheet, sheet_outcome}
use Rattle.batch.specs.Meaning.{all_matched, AddsUp, FullSheet, SheetMeans, IsRuns}
use Rattle.batch.proofs.Outcome.{passed}
use Rattle.batch.proofs.Refusals.{refused_by_12}
use Rattle.batch.proofs.OwnRuns.{own, own-own, own-fits, each-run}
use Rattle.batch.proofs.Verdict.{broken-met, none-met, early_met}

module _ (o : Option Store) (ends : List ℕ) (r : Run) where
  abbrev rs : List Run
  rs = sentences 0 ends r

  abbrev early : Outcome
  early = record { sheet = refused_sheet (met o ends r).number (met o ends r).place; points = r.points; lengths = r.lengths }

  -- an outcome has a property that early refusals, 12 and acceptance have
  outcome_by : (P : Outcome → Type 0) → (((met o ends r).number ≡ 0 → ⊥) → P early) → ((met o ends r).number ≡ 0 → (first_refused o 1 rs ≡ 0 → ⊥) → P (broken_sheet (first_refused o 1 rs) (last_end 0 ends) r)) → ((met o ends r).number ≡ 0 → first_refused o 1 rs ≡ 0 → P (accepted_sheet o ends r)) → P (sheet_outcome o ends r)
  unfolding sheet_outcome scored_sheet
  outcome_by P f g h = go (eqb (met o ends r).number 0) refl (eqb (first_refused o 1 rs) 0) refl
    where
      go : (t : Bool) → eqb (met o ends r).number 0 ≡ t → (u : Bool) → eqb (first_refused o 1 rs) 0 ≡ u → P (cond t (cond u (accepted_sheet o ends r) (broken_sheet (first_refused o 1 rs) (last_end 0 ends) r)) early)
      go false d u e = f (eqb-false _ _ d)
      go true d false e = g (eqb-true _ _ d) (eqb-false _ _ e)
      go true d true e = h (eqb-true _ _ d) (eqb-true _ _ e)

-- ---- the meaning, and the theorems

module _ (base check : List ℤ) (ends : List ℕ) (r : Run) where
  abbrev array : Option Store
  array = opened base check

  abbrev all : List Run
  all = sentences 0 ends r

  five-all : (met array ends r).number ≡ 0 → first_refused array 1 all ≡ 0 → all_matched (full_sheet array ends all) ≡ last_end 0 ends + length ends
  unfolding matched_of
  five-all m n =
      let p = passed base check ends r m in
      omega (arith, five-words base check r 0 0 ends p.ends-good p.sizes.lengths-reach n, bytes-long array r ends p.ends-good p.sizes.lengths-reach, five_closing base check r 0 0 ends n)

  -- each of the words' bytes is counted
  bytes_told : (met array ends r).number ≡ 0 → take (last_end 0 ends) (accepted_sheet array ends r).lengths ≡ word_bytes array all
  unfolding accepted_sheet
  bytes_told m = let p = passed base check ends r m in take_at (word_bytes array all) _ (last_end 0 ends) (bytes-long array r ends p.ends-good p.sizes.lengths-reach)

  full-sheet : (met array ends r).number ≡ 0 → first_refused array 1 all ≡ 0 → FullSheet array ends r (accepted_sheet array ends r)
  full-sheet m n = record {
    all-sentences = unfold accepted_sheet in refl;
    all_words = unfold accepted_sheet in refl;
    unknown = rw (bytes_told m) (unfold accepted_sheet unknown_of in refl);
    matched = rw (bytes_told m) (unfold accepted_sheet matched_of in refl);
    adds_up = record { counts = unfold accepted_sheet in five-all m n; total = unfold accepted_sheet total_of in refl };
    each = each-run base check ends r m n;
  }

  accepted_means : (met array ends r).number ≡ 0 → first_refused array 1 all ≡ 0 → SheetMeans base check ends r (accepted_sheet array ends r)
  unfolding accepted_sheet
  accepted_means m n =
      let p = passed base check ends r m in
      record {
        verdict = none-met base check ends r m n;
        accepted = λ z. full-sheet m n;
        refused = λ z. absurd (z refl);
        points-past = drop_at (word_points array all) _ (last_end 0 ends) (points-long array r ends p.ends-good p.sizes.points-reach);
        lengths-past = drop_at (word_bytes array all) _ (last_end 0 ends) (bytes-long array r ends p.ends-good p.sizes.lengths-reach);
      }

  broken_means : (met array ends r).number ≡ 0 → (first_refused array 1 all ≡ 0 → ⊥) → SheetMeans base check ends r (broken_sheet (first_refused array 1 all) (last_end 0 ends) r)
  unfolding broken_sheet written
  broken_means m n = record {
    verdict = broken-met base check ends r m n;
    accepted = λ z. absurd (omega arith);
    refused = λ z. refl;
    points-past = rw (length-replicate (last_end 0 ends) (pos 0)) (drop_at (replicate (last_end 0 ends) (pos 0)) _ (last_end 0 ends) (length-replicate (last_end 0 ends) (pos 0)));
    lengths-past = rw (length-replicate {A = ℕ} (last_end 0 ends) 0) (drop_at (replicate {A = ℕ} (last_end 0 ends) 0) _ (last_end 0 ends) (length-replicate {A = ℕ} (last_end 0 ends) 0));
  }

  early_means : ((met array ends r).number ≡ 0 → ⊥) → SheetMeans base check ends r (early array ends r)
  early_means n = record { verdict = early_met base check ends r n; accepted = λ z. absurd (n z); refused = λ z. refl; points-past = refl; lengths-past = refl }

  pub sheet_means : SheetMeans base check ends r (sheet_outcome array ends r)
  sheet_means = outcome_by array ends r (SheetMeans base check ends r) early_means broken_means accepted_means

  -- "Those five counts add up to words plus sentences, and the total equals the separate sentence totals added."
  pub sheet_adds_up : (sheet_outcome array ends r).sheet.number ≡ 0 → AddsUp array ends r (sheet_outcome array ends r)
  sheet_adds_up z = (sheet_means.accepted z).adds_up

  pub sheet-is-runs : IsRuns array ends r
  sheet-is-runs = record {
    each = λ z. (sheet_means.accepted z).each;
    accepted = λ m each.
        let n = none-refused array r 1 0 ends (λ i h. each i h (own base check ends r i) (own-own base check ends r m i h)) in
        unfold sheet_outcome scored_sheet accepted_sheet in
        rw (eq-eqb (met array ends r).number 0 m, eq-eqb (first_refused array 1 all) 0 n);
    refused = λ m i h q c n. refused_by_12 base check (passed base check ends r m).array q (own-fits base check ends r m i h q c) n;
  }
