-- What filling means. Assumes nothing.
use mathlib.Core.Path.{◌≡◌, refl, sym, ap, ◌∙◌}
use mathlib.Core.Bool.{true}
use mathlib.Core.List.{List}
use Prim.Native.Nat.{ℕ, ◌*◌, ◌≤◌}
use native.Mathlib.Omega.{arith}
use lib.ListN.{length, take, drop}
use lib.Seq.{take_at, drop_at}
use lib.IntN.{ℤ}
use Rattle.backoff.specs.Refusal.{number_of, place_of}
use Rattle.backoff.specs.Run.{written}
use Rattle.backoff.proofs.Slices.{length-written}
use Rattle.backoff.specs.Refusal.{Verdict}
use Rattle.backoff.specs.Refusal.{Accepted, Refused}
use Rattle.row_search.proofs.Search.{find_unique}
use Rattle.list.proofs.Check.{checked-good, checked-size, accepted-refused}
use Rattle.filled_list.specs.Filled.{filled_rows, filled_table}
use Rattle.filled_list.proofs.FilledTable.{filled-length, filled-rows, filled-checked}
use Rattle.filled_list.proofs.FilledModel.{filled-order, filled_scores_alike}
use Rattle.filling.specs.Fill.{fill_verdict, Filled, filled_by, fill_outcome, IsFilled}
use Rattle.filling.specs.Meaning.{FilledList, FillMeans}
use Rattle.filling.proofs.AddsOnly.{filled_adds_only}
use Rattle.filling.proofs.Refusals.{fill_accepted, fill_number, refused_told}
use Rattle.filling.proofs.FilledAccepted.{filled-accepted}

filled-list : (t : List ℤ) (size : ℕ) → fill_verdict t size ≡ Accepted → FilledList t (filled_table t)
filled-list t size e =
    let f = fill_accepted t size e in
    let a = f.checked in
    record {
      accepted = filled-accepted t size f;
      order_as = filled-order t (checked-good true t a) (checked-size true t a).0;
      adds_only = filled_adds_only t (checked-good true t a);
      once = find_unique (filled_table t) (filled-checked t a);
      scores_alike = filled_scores_alike t a;
    }

-- ---- the call

written_part : (new old : List ℤ) (n : ℕ) → length new ≡ n → (take n (written new old) ≡ new) × (drop n (written new old) ≡ drop n old)
unfolding written
written_part new old n e = (take_at new (drop (length new) old) n e, drop_at new (drop (length new) old) n e ∙ ap (λ (k : ℕ). drop k old) e)

module _ (t second : List ℤ) where
  abbrev Means : Filled → Type 0
  Means o = FillMeans t second (number_of o.answer) (place_of o.answer) o.rows o.table

  accepted_means : fill_verdict t (length second) ≡ Accepted → Means (filled_by t second Accepted)
  accepted_means e =
      let f = fill_accepted t (length second) e in
      let g = checked-good true t f.checked in
      let long = filled-length t g in
      let fits : length (filled_table t) ≤ length second = let s = f.fits in omega arith in
      let part = written_part (filled_table t) second (8 * length (filled_rows t)) long in
      record {
        filled = λ _. rw part.0 (filled-list t (length second) e);
        counted = λ _. rw part.0 (filled-rows t g);
        rest = λ _. part.1;
        no_place = λ _. refl;
        as_long = length-written (filled_table t) second fits;
        refused = λ n. absurd (n refl);
        untouched = λ n. absurd (n refl);
      }

  refused_means : (n p : ℕ) → fill_verdict t (length second) ≡ Refused n p → Means (filled_by t second (Refused n p))
  refused_means n p e =
      let never : n ≡ 0 → ⊥ = λ z. accepted-refused n p (sym e ∙ fill_number t (length second) (ap number_of e ∙ z)) in
      record {
        filled = λ z. absurd (never z);
        counted = λ z. absurd (never z);
        rest = λ z. absurd (never z);
        no_place = λ z. absurd (never z);
        as_long = refl;
        refused = λ _. refused_told t second n p never e;
        untouched = λ _. (refl, refl);
      }

  outcome_means : Means (fill_outcome t second)
  unfolding fill_outcome
  outcome_means = go (fill_verdict t (length second)) refl
    where
      go : (v : Verdict) → fill_verdict t (length second) ≡ v → Means (filled_by t second v)
      go Accepted e = accepted_means e
      go (Refused n p) e = refused_means n p e

  -- whatever a call leaves
  pub fill_means : (number place rows : ℕ) (table : List ℤ) → IsFilled (fill_outcome t second) number place rows table → FillMeans t second number place rows table
  fill_means number place rows table x = rw (x.number_is, x.place_is, x.rows_are, x.table_is) outcome_means

  -- the rows that an accepted call leaves are the filled list
  pub filled_means : (fill_outcome t second).answer ≡ Accepted → FilledList t (take (8 * (fill_outcome t second).rows) (fill_outcome t second).table)
  filled_means e = outcome_means.filled (ap number_of e)
