-- Children on either side score as the list does. Assumes nothing.
use Rattle.std.specs.declared.option.Option.{Option}
use mathlib.Core.Path.{◌≡◌, ap}
use mathlib.Core.List.{List}
use Prim.Native.Nat.{ℕ}
use lib.IntN.{ℤ}
use Rattle.backoff.specs.Store.{Store, start_outcome, run_outcome}
use Rattle.backoff.specs.Refusal.{Accepted}
use Rattle.build.specs.Build.{build_outcome}
use Rattle.build.proofs.Built.{build_opened}
use Rattle.build.proofs.Found.{found_exactly_if_listed}
use Rattle.batch.specs.Sheet.{sheet_outcome}
use Rattle.fragment_scoring.specs.Outcome.{fragment_outcome}
use Rattle.joining.specs.Outcome.{join_outcome}
use Rattle.theorems.specs.RunsInARow.{array_of}
use Rattle.theorems.specs.EitherSide.{list_store, ScoresAsTheList}

pub either_side_scores_alike : (table base check : List ℤ) (work : List ℕ) → (build_outcome table base check work).answer ≡ Accepted → ScoresAsTheList table (build_outcome table base check work)
either_side_scores_alike table base check work built =
    let opens : array_of (build_outcome table base check work) ≡ list_store table = unfold array_of in build_opened table base check work built in
    record {
      opens = opens;
      lookups = λ ws. found_exactly_if_listed table base check work ws built;
      starts = λ l. ap (λ (o : Option Store). start_outcome o l) opens;
      runs = λ l r. ap (λ (o : Option Store). run_outcome o l r) opens;
      sheets = λ ends r. ap (λ (o : Option Store). sheet_outcome o ends r) opens;
      fragments = λ ws. ap (λ (o : Option Store). fragment_outcome o ws) opens;
      joins = λ one two. ap (λ (o : Option Store). join_outcome o one two) opens;
    }
