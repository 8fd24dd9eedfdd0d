-- A pruned list, filled and built: runs over the array give the points of the pruned list. Assumes nothing.
use mathlib.Core.Path.{◌≡◌, ap, ◌∙◌}
use mathlib.Core.Bool.{Bool}
use mathlib.Core.List.{List}
use Prim.Native.Nat.{ℕ}
use lib.ListN.{length, take, get_or}
use lib.IntN.{ℤ}
use Rattle.integer.specs.Integer.{sum}
use Rattle.backoff.specs.Rule.{rule}
use Rattle.backoff.specs.Run.{Run, front}
use Rattle.backoff.specs.Runs.{joined}
use Rattle.backoff.specs.Refusal.{Accepted}
use Rattle.list.specs.ListModel.{model_of}
use Rattle.build.specs.Build.{build_outcome}
use Rattle.filled_list.proofs.Alike.{history-alike, rule_points-alike}
use Rattle.filling.specs.Fill.{fill_outcome}
use Rattle.filling.specs.Meaning.{FilledList}
use Rattle.filling.proofs.Meaning.{filled_means}
use Rattle.theorems.specs.RunsInARow.{array_of}
use Rattle.theorems.specs.PrunedRuns.{filled_list, PrunedRuns}
use Rattle.theorems.proofs.RunsInARow.{runs_in_a_row}

module _ (pruned second : List ℤ) (filled : (fill_outcome pruned second).answer ≡ Accepted) where
  abbrev T : List ℤ
  T = filled_list (fill_outcome pruned second)

  filled_is : FilledList pruned T
  unfolding filled_list
  filled_is = filled_means pruned second filled

  pub pruned-runs : (base check : List ℤ) (work : List ℕ) → (build_outcome T base check work).answer ≡ Accepted
      → (started : Bool) (lent : List ℤ) → length lent ≡ 9 → (rs : List Run) → PrunedRuns (array_of (build_outcome T base check work)) (model_of pruned) started lent rs
  pruned-runs base check work built started lent nine-long rs =
      let row = (runs_in_a_row T base check work built started lent nine-long rs).scored in
      let alike = filled_is.scores_alike in
      let texts = rule_points-alike (model_of pruned) (model_of T) alike (front started) (joined rs) in
      record {
        start = row.start;
        refusals = row.refusals;
        places = row.places;
        each-points = λ i l.
            row.each-points i l
            ∙ alike _ (get_or (joined rs) i 0)
            ∙ ap (λ (h : List ℕ). (rule (model_of pruned) h (get_or (joined rs) i 0)).points) (history-alike (model_of pruned) (model_of T) (front started) (take i (joined rs)));
        points = row.points ∙ texts;
        total = row.total ∙ ap sum texts;
      }
