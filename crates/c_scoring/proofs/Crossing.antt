-- How start and run cross: a slice of another length than nine, and answers whose state is nine numbers. Assumes nothing.
use Rattle.std.specs.declared.option.Option.{Option}
use mathlib.Core.Path.{◌≡◌, refl, ap, ◌∙◌}
use mathlib.Core.List.{List}
use Prim.Native.Nat.{ℕ}
use lib.ListN.{length}
use lib.IntN.{ℤ}
use borrow.Author.Tests.{eq-eqb, ne_eqb}
use Rattle.std.specs.declared.result.Result.TheVariants.{Err}
use Rattle.backoff.specs.declared.Reason.TheVariants.{BadState}
use Rattle.backoff.specs.declared.Refusal.{Refusal}
use Rattle.backoff.specs.Refusal.{reason_number, verdict_of}
use Rattle.backoff.specs.Run.{Run, Answer, refused_run}
use Rattle.backoff.specs.NineNumbers.{nine_zeros}
use Rattle.backoff.specs.Store.{Store, Started, run_outcome, start_outcome}
use Rattle.double_array.specs.DoubleArray.{opened}
use Rattle.score.specs.Meaning.{StartMeans, RunMeans}
use Rattle.score.proofs.Outcomes.{start_means as started-means, run_means as ran-means}
use Rattle.c_answers.specs.declared.Status.{Status}
use Rattle.c_answers.specs.declared.Total.{Total}
use Rattle.c_answers.specs.Answers.{StatusIs, TotalOf}
use Rattle.c_scoring.specs.Crossing.{StartedIs, RanIs}

module _ (o : Option Store) (l : List ℤ) (n : length l ≡ 9 → ⊥) {refusal : Refusal ℕ} (is : refusal ≡ (record { reason = BadState; place = 0 })) where
  pub start_wrong_length : {answer : Status} → StatusIs (verdict_of (Err refusal)) answer → StartedIs (start_outcome o l) answer l
  unfolding start_outcome
  start_wrong_length status = rw (ne_eqb (length l) 9 n) (record { number = status.number ∙ ap (λ (r : Refusal ℕ). reason_number r.reason) is; place = status.place ∙ ap (λ (r : Refusal ℕ). r.place) is; state-is = refl })

  pub run_wrong_length : (r : Run) {answer : Total} → TotalOf (Err refusal) answer → RanIs (run_outcome o l r) answer l r.points r.lengths
  unfolding run_outcome refused_run
  run_wrong_length r total = rw (ne_eqb (length l) 9 n) (record { total = record { number = total.number ∙ ap (λ (r : Refusal ℕ). reason_number r.reason) is; place = total.place ∙ ap (λ (r : Refusal ℕ). r.place) is; total = total.total; points_are = refl; lengths_are = refl }; end_is = refl })

-- start does not read the slice that it is lent
pub start_any : (o : Option Store) (l : List ℤ) → length l ≡ 9 → start_outcome o nine_zeros ≡ start_outcome o l
unfolding start_outcome
start_any o l e = rw (eq-eqb (length l) 9 e)

pub start_crosses : (o : Option Store) (l : List ℤ) → length l ≡ 9 → {number place : ℕ} {state end : List ℤ} {answer : Status} → ◌≡◌ {A = Started} (record { number = number; place = place; state = state }) (start_outcome o nine_zeros) → answer.number ≡ number → answer.place ≡ place → end ≡ state → StartedIs (start_outcome o l) answer end
start_crosses o l nine-long {number} {place} {state} {end} {answer} is n p e = record {
  number = n ∙ ap (λ (x : Started). x.number) same;
  place = p ∙ ap (λ (x : Started). x.place) same;
  state-is = e ∙ ap (λ (x : Started). x.state) same;
}
  where
    same : ◌≡◌ {A = Started} (record { number = number; place = place; state = state }) (start_outcome o l)
    same = is ∙ start_any o l nine-long

-- ---- what crossed means what the outcome means

pub start_means : (base check l : List ℤ) {answer : Status} {state : List ℤ} → StartedIs (start_outcome (opened base check) l) answer state → StartMeans base check l answer.number answer.place state
start_means base check l {answer} {state} is = rw (is.number, is.place, is.state-is) (started-means base check l)

-- a run's answer as it crossed
abbrev crossed : Total → List ℤ → List ℤ → List ℕ → Answer (List ℤ)
crossed r state points lengths = record { number = r.number; place = r.place; total = r.total; end = state; points = points; lengths = lengths }

pub run_means : (base check l : List ℤ) (r : Run) {answer : Total} {state points : List ℤ} {lengths : List ℕ} → RanIs (run_outcome (opened base check) l r) answer state points lengths → RunMeans base check l r (crossed answer state points lengths)
run_means base check l r {answer} {state} {points} {lengths} is = rw (is.total.number, is.total.place, is.total.total, is.end_is, is.total.points_are, is.total.lengths_are) (ran-means base check l r)
