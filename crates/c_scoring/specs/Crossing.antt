-- The answers of start and run as they cross to C, each with the slice of the state at exit. Assumes nothing.
use Rattle.std.specs.Prelude.{◌≡◌, List, ℕ, ℤ}
use Rattle.backoff.specs.Run.{Answer}
use Rattle.backoff.specs.Store.{Started}
use Rattle.c_answers.specs.declared.Status.{Status}
use Rattle.c_answers.specs.declared.Total.{Total}
use Rattle.c_answers.specs.Answers.{TotalIs}

-- start's answer, and the slice of the state at exit
pub record StartedIs (a : Started) (r : Status) (state : List ℤ) : Type 0 where
  pub number : r.number ≡ a.number
  pub place : r.place ≡ a.place
  pub state-is : state ≡ a.state

-- a run's answer with the slice of the state at exit
pub record RanIs (a : Answer (List ℤ)) (r : Total) (state points : List ℤ) (lengths : List ℕ) : Type 0 where
  pub total : TotalIs a r points lengths
  pub end_is : state ≡ a.end
