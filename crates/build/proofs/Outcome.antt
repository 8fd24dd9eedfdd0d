-- From the outcome of a list that is checked to the outcome of build, whose work slice may be longer than the rows. Assumes nothing.
use mathlib.Core.Path.{◌≡◌, refl, ap, ◌∙◌}
use mathlib.Core.Bool.{Bool, true, false, cond, ◌&&◌}
use mathlib.Core.List.{List, [], ◌++◌, append-nil}
use Prim.Native.Nat.{ℕ}
use native.Mathlib.Omega.{arith}
use lib.Dec.{leb}
use lib.IntN.{ℤ}
use lib.ListN.{length, take, drop, replicate, length-replicate, drop_of_length-le, length-take, take-append-drop}
use Rattle.backoff.specs.Refusal.{table_length, array_length}
use Rattle.backoff.specs.Run.{written}
use Rattle.backoff.specs.Refusal.{Verdict}
use Rattle.backoff.specs.Refusal.{Accepted, Refused}
use Rattle.rows.specs.Table.{rows_of}
use Rattle.list.specs.Check.{verdict, table_fits}
use Rattle.double_array.specs.DoubleArray.{sizes_ok}
use Rattle.list_trie.specs.ListTrie.{placed_list, row_slots}
use Rattle.placed_list.specs.Build.{untouched, filled, emptied, checked_build, IsBuilt}
use Rattle.placed_list.proofs.Outcome.{length-row_slots}
use Rattle.build.specs.Build.{build_outcome}

-- the work items past the rows are untouched
written_part : {A : Type 0} (k : ℕ) (new old : List A) → length new ≡ k → written new (take k old) ++ drop k old ≡ written new old
unfolding written
written_part {A} k new old e =
    let none : drop (length new) (take k old) ≡ [] = drop_of_length-le (take k old) {i = length new} (rw length-take (omega arith)) in
    rw (none, append-nil new, e)

-- ---- the outcome of build

module _ (t B C : List ℤ) (W : List ℕ) where
  untouched-is : (v : Verdict) → IsBuilt (untouched t B C W v) v B C W
  unfolding untouched
  untouched-is v = record { answer-is = refl; base-is = refl; check-is = refl; work-is = refl }

  pub outcome_rows : {v : Verdict} {n k : ℕ} → v ≡ verdict t → v ≡ Refused n k → IsBuilt (checked_build t B C W (verdict t)) v B C W
  outcome_rows {n = n} {k = k} e q = rw (← e, q) (untouched-is (Refused n k))

  pub outcome_table : table_fits (length t) ≡ false → IsBuilt (build_outcome t B C W) (Refused table_length 0) B C W
  unfolding build_outcome
  outcome_table e = rw e (untouched-is (Refused table_length 0))

  module _ (f : table_fits (length t) ≡ true) where
    pub outcome_sizes : (sizes_ok B C && leb (rows_of t) (length W)) ≡ false → IsBuilt (build_outcome t B C W) (Refused array_length 0) B C W
    unfolding build_outcome
    outcome_sizes e = rw (f, e) (untouched-is (Refused array_length 0))

    module _ (z : (sizes_ok B C && leb (rows_of t) (length W)) ≡ true) where
      -- the part of the work items that is the rows' comes back
      part_back : (b : Bool) {r : Verdict} {B' C' : List ℤ} {W' : List ℕ} → IsBuilt (cond b (filled t B C (take (rows_of t) W)) (emptied t B C (take (rows_of t) W))) r B' C' W'
          → IsBuilt (cond b (filled t B C W) (emptied t B C W)) r B' C' (W' ++ drop (rows_of t) W)
      unfolding filled emptied
      part_back true i = record {
        answer-is = i.answer-is;
        base-is = i.base-is;
        check-is = i.check-is;
        work-is = ap (λ (l : List ℕ). l ++ drop (rows_of t) W) i.work-is ∙ written_part (rows_of t) (row_slots t) W (length-row_slots t);
      }
      part_back false i = record {
        answer-is = i.answer-is;
        base-is = i.base-is;
        check-is = i.check-is;
        work-is = ap (λ (l : List ℕ). l ++ drop (rows_of t) W) i.work-is ∙ written_part (rows_of t) (replicate (rows_of t) 0) W (length-replicate (rows_of t) 0);
      }

      checked-back : (v : Verdict) {r : Verdict} {B' C' : List ℤ} {W' : List ℕ} → IsBuilt (checked_build t B C (take (rows_of t) W) v) r B' C' W' → IsBuilt (checked_build t B C W v) r B' C' (W' ++ drop (rows_of t) W)
      unfolding untouched
      checked-back Accepted i = part_back (leb (placed_list t).top (length B)) i
      checked-back (Refused n k) i = record {
        answer-is = i.answer-is;
        base-is = i.base-is;
        check-is = i.check-is;
        work-is = ap (λ (l : List ℕ). l ++ drop (rows_of t) W) i.work-is ∙ take-append-drop (rows_of t) W;
      }

      pub outcome_checked : {r : Verdict} {B' C' : List ℤ} {W' : List ℕ} → IsBuilt (checked_build t B C (take (rows_of t) W) (verdict t)) r B' C' W' → IsBuilt (build_outcome t B C W) r B' C' (W' ++ drop (rows_of t) W)
      unfolding build_outcome
      outcome_checked i = rw (f, z) (checked-back (verdict t) i)
