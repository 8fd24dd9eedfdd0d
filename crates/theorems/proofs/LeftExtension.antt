-- Which length bytes have their 16, over the array that an accepted build left. Assumes nothing.
use mathlib.Core.Path.{◌≡◌}
use mathlib.Core.Bool.{Bool}
use mathlib.Core.List.{List}
use Prim.Native.Nat.{ℕ, ◌<◌}
use lib.ListN.{length, get_or}
use lib.IntN.{ℤ}
use Rattle.backoff.specs.Rule.{LeftExtension}
use Rattle.backoff.specs.Run.{Run}
use Rattle.backoff.specs.Runs.{joined}
use Rattle.backoff.specs.Refusal.{Accepted}
use Rattle.backoff.proofs.Rule.{left_extension}
use Rattle.list.specs.ListModel.{model_of}
use Rattle.list.proofs.ListModel.{accepted-model}
use Rattle.build.specs.Build.{build_outcome}
use Rattle.build.proofs.Built.{build_accepted}
use Rattle.theorems.specs.RunsInARow.{array_of, lengths_left, preceding}
use Rattle.theorems.proofs.RunsInARow.{runs_in_a_row}

-- Of each joined word of a list of runs: its byte has the 16 exactly if some listed row puts a word in front of the row whose p was used.
pub left_extension_exactly_if_listed : (table base check : List ℤ) (work : List ℕ) → (build_outcome table base check work).answer ≡ Accepted
    → (started : Bool) (lent : List ℤ) → length lent ≡ 9 → (rs : List Run) (i : ℕ) → i < length (joined rs)
    → LeftExtension (model_of table)
    (preceding (array_of (build_outcome table base check work)) (model_of table) started lent rs i)
    (get_or (joined rs) i 0)
    (get_or (lengths_left (array_of (build_outcome table base check work)) (model_of table) started lent rs) i 0)
left_extension_exactly_if_listed table base check work built started lent nine-long rs i h =
    rw ((runs_in_a_row table base check work built started lent nine-long rs).each-length i h)
    (left_extension (model_of table) (accepted-model table (build_accepted table base check work built).accepted) _ (get_or (joined rs) i 0))
