-- Which number and place a sheet returns: those of the first refusal that is met, over any lent arrays. Assumes nothing.
use Rattle.std.specs.declared.option.Option.{Option}
use mathlib.Core.Path.{◌≡◌, refl}
use mathlib.Core.Logic.{◌⊎◌, inl, inr}
use mathlib.Core.Bool.{Bool, true, false, cond, ◌||◌}
use mathlib.Core.List.{List}
use Prim.Native.Nat.{ℕ, suc, ◌<◌}
use native.Mathlib.Omega.{arith}
use lib.ListN.{length, drop}
use lib.IntN.{ℤ}
use lib.Dec.{eqb, ltb}
use borrow.Author.Tests.{eqb-true, eqb-false, ltb-true, ltb-false}
use Rattle.backoff.specs.Limits.{run_limit}
use Rattle.backoff.specs.Refusal.{broken_node, word_count, short_slice}
use Rattle.backoff.specs.FirstMet.{Line, FirstMet}
use Rattle.backoff.specs.Run.{Run}
use Rattle.backoff.specs.Store.{Store}
use Rattle.backoff.proofs.FirstMet.{met_when, not_when, not-false, met_at, not_at}
use Rattle.double_array.specs.DoubleArray.{is_array, opened}
use Rattle.double_array.proofs.DoubleArray.{opened_some, opened-none}
use Rattle.sentence_ends.specs.Ends.{last_end, bad_end, sheet_size, early_refusal}
use Rattle.sentence_ends.proofs.Ends.{good-end, FirstBad, first_bad_lem}
use Rattle.stretches.specs.Stretches.{sentences, first_refused}
use Rattle.stretches.proofs.FirstRefused.{each-scored, first-refused}
use Rattle.batch.specs.Sheet.{met}
use Rattle.batch.specs.Meaning.{BadEnd, sheet_refusals}
use Rattle.batch.proofs.Outcome.{Passed, passed}
use Rattle.batch.proofs.OwnRuns.{own-stuck, own-scored}

module _ (base check : List ℤ) (ends : List ℕ) (r : Run) where
  abbrev array : Option Store
  array = opened base check

  abbrev all : List Run
  all = sentences 0 ends r

  abbrev lines : List Line
  lines = sheet_refusals base check ends r

  -- 11 is passed, and 20
  past-ends : is_array base check ≡ true → bad_end (length r.words) 1 0 ends ≡ 0 → (number place : ℕ) → FirstMet (drop 2 lines) number place → FirstMet lines number place
  past-ends h g number place v = inr (not-false h, inr (not_at good, v))
    where
      good : (i : ℕ) → BadEnd ends r i → ⊥
      good i (l, inl b) = let w = (good-end (length r.words) 0 0 ends i g l).0 in omega arith
      good i (l, inr b) = let w = (good-end (length r.words) 0 0 ends i g l).1 in omega arith

  -- 14 and 15 too
  past-sizes : (met array ends r).number ≡ 0 → (number place : ℕ) → FirstMet (drop 4 lines) number place → FirstMet lines number place
  past-sizes m number place v = past-ends p.array p.ends-good number place (inr (not_when many, inr (not_when short, v)))
    where
      p : Passed base check ends r
      p = passed base check ends r m

      many : (run_limit < length r.words) ⊎ (run_limit < length ends) → ⊥
      many (inl h) = let w = p.sizes.few_words in omega arith
      many (inr h) = let w = p.sizes.few-ends in omega arith

      short : (length r.points < last_end 0 ends) ⊎ (length r.lengths < last_end 0 ends) → ⊥
      short (inl h) = let w = p.sizes.points-reach in omega arith
      short (inr h) = let w = p.sizes.lengths-reach in omega arith

  -- 12 at the first sentence that is refused
  pub broken-met : (met array ends r).number ≡ 0 → (first_refused array 1 all ≡ 0 → ⊥) → FirstMet lines broken_node (first_refused array 1 all)
  broken-met m n =
      let f = first-refused array r 0 0 ends n in
      let z : first_refused array 1 all ≡ suc f.i = omega (arith, f.is) in
      rw z (past-sizes m _ _ (inl (met_at f.i (f.inside, own-stuck base check ends r m f.i f.inside f.refused) (λ j l t. own-scored base check ends r m j t.0 (f.before j l) t.1))))

  pub none-met : (met array ends r).number ≡ 0 → first_refused array 1 all ≡ 0 → FirstMet lines 0 0
  none-met m n = past-sizes m _ _ (inr (not_at (λ i t. own-scored base check ends r m i t.0 (each-scored array r 0 0 ends i n t.0) t.1), (refl, refl)))

  -- 14 or 15
  sizes-met : is_array base check ≡ true → bad_end (length r.words) 1 0 ends ≡ 0 → (sheet_size (length r.words) (length ends) (last_end 0 ends) (length r.points) (length r.lengths) ≡ 0 → ⊥) → FirstMet lines (sheet_size (length r.words) (length ends) (last_end 0 ends) (length r.points) (length r.lengths)) 0
  unfolding sheet_size
  sizes-met h g n = past-ends h g _ _ (go (ltb run_limit (length r.words)) refl (ltb run_limit (length ends)) refl (ltb (length r.points) (last_end 0 ends)) refl (ltb (length r.lengths) (last_end 0 ends)) refl n)
    where
      few : ltb run_limit (length r.words) ≡ false → ltb run_limit (length ends) ≡ false → (run_limit < length r.words) ⊎ (run_limit < length ends) → ⊥
      few e f (inl z) = let w = ltb-false run_limit (length r.words) e in omega arith
      few e f (inr z) = let w = ltb-false run_limit (length ends) f in omega arith

      go : (a : Bool) → ltb run_limit (length r.words) ≡ a → (b : Bool) → ltb run_limit (length ends) ≡ b → (c : Bool) → ltb (length r.points) (last_end 0 ends) ≡ c → (d : Bool) → ltb (length r.lengths) (last_end 0 ends) ≡ d → (cond (a || b) word_count (cond (c || d) short_slice 0) ≡ 0 → ⊥) → FirstMet (drop 2 lines) (cond (a || b) word_count (cond (c || d) short_slice 0)) 0
      go true e b f c g d k n = inl (met_when (inl (ltb-true _ _ e)))
      go false e true f c g d k n = inl (met_when (inr (ltb-true _ _ f)))
      go false e false f true g d k n = inr (not_when (few e f), inl (met_when (inl (ltb-true _ _ g))))
      go false e false f false g true k n = inr (not_when (few e f), inl (met_when (inr (ltb-true _ _ k))))
      go false e false f false g false k n = absurd (n refl)

  -- 11, 20, 14 or 15
  pub early_met : ((met array ends r).number ≡ 0 → ⊥) → FirstMet lines (met array ends r).number (met array ends r).place
  unfolding met
  early_met n = go (is_array base check) refl (eqb (bad_end (length r.words) 1 0 ends) 0) refl n
    where
      good : (f : FirstBad (length r.words) 0 0 ends) (j : ℕ) → j < f.i → BadEnd ends r j → ⊥
      good f j l (h, inl b) = let w = (f.before j l).0 in omega arith
      good f j l (h, inr b) = let w = (f.before j l).1 in omega arith

      go : (t : Bool) → is_array base check ≡ t → (u : Bool) → eqb (bad_end (length r.words) 1 0 ends) 0 ≡ u → ((early_refusal array (length r.words) ends (length r.points) (length r.lengths)).number ≡ 0 → ⊥) → FirstMet lines (early_refusal array (length r.words) ends (length r.points) (length r.lengths)).number (early_refusal array (length r.words) ends (length r.points) (length r.lengths)).place
      go false h u g n = rw (opened-none base check h) (inl (met_when h))
      go true h true g n = rw (opened_some base check h, g) (sizes-met h (eqb-true _ _ g) (rw (opened_some base check h, g) at n))
      go true h false g n =
          let f = first_bad_lem (length r.words) 0 0 ends (eqb-false _ _ g) in
          let z : bad_end (length r.words) 1 0 ends ≡ suc f.i = omega (arith, f.is) in
          rw (opened_some base check h, g, z) (inr (not-false h, inl (met_at f.i (f.inside, f.bad) (good f))))
