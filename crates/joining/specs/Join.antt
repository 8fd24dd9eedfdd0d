-- The joining of two neighbours, over a model. The sentences quoted are document 02's, of T-06. Assumes nothing.
use Rattle.std.specs.Prelude.{cond, ◌++◌, ◌+◌, take, ℤ, ◌+ℤ◌, ◌-ℤ◌, leb}
use Rattle.integer.specs.Integer.{sum}
use Rattle.backoff.specs.Model.{Model, reach}
use Rattle.backoff.specs.State.{State, empty}
use Rattle.backoff.specs.Run.{run_points, run_end}
use Rattle.fragments.specs.Fragment.{Fragment}

module _ (M : Model) where
  -- "the joined total is both totals, less the second's kept words scored from nothing, plus those words scored after the first's end state"
  unfoldable pub joined_total : Fragment State → Fragment State → ℤ
  joined_total a b = a.total +ℤ b.total -ℤ sum (run_points M empty b.first) +ℤ sum (run_points M a.end b.first)

  -- "the end state is the second's if it has n−1 words or more, else what that scoring leaves"
  unfoldable pub joined_end : Fragment State → Fragment State → State
  joined_end a b = cond (leb (reach M) b.count) b.end (run_end M a.end b.first)

  -- any two fragments
  unfoldable pub join : Fragment State → Fragment State → Fragment State
  join a b = record { total = joined_total a b; first = take (reach M) (a.first ++ b.first); count = a.count + b.count; end = joined_end a b }
