-- An answer that is the outcome means what specs/Meaning.antt says. Assumes nothing.
use mathlib.Core.Path.{◌≡◌}
use mathlib.Core.List.{List}
use lib.IntN.{ℤ}
use Rattle.backoff.specs.Run.{Run, Answer}
use Rattle.backoff.specs.NineNumbers.{nine_zeros}
use Rattle.backoff.specs.Store.{Started, run_outcome, start_outcome}
use Rattle.double_array.specs.DoubleArray.{opened}
use Rattle.score.specs.Meaning.{StartMeans, RunMeans}
use Rattle.score.proofs.Outcomes.{start_means, run_means}

pub start-meaning : (base check : List ℤ) (a : Started) → a ≡ start_outcome (opened base check) nine_zeros → StartMeans base check nine_zeros a.number a.place a.state
start-meaning base check a e = rw e (start_means base check nine_zeros)

pub run-meaning : (base check l : List ℤ) (r : Run) (a : Answer (List ℤ)) → a ≡ run_outcome (opened base check) l r → RunMeans base check l r a
run-meaning base check l r a e = rw e (run_means base check l r)
