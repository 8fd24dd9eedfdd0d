-- What the code's run returns and leaves, as the answer that crate backoff defines. Assumes nothing.
use Rattle.std.specs.declared.result.Result.{Result}
use Rattle.std.specs.declared.result.Result.TheVariants.{Ok, Err}
use Rattle.std.specs.Prelude.{List, ℕ, ℤ, pos}
use Rattle.backoff.specs.declared.Refusal.{Refusal}
use Rattle.backoff.specs.Refusal.{number_in, place_in}
use Rattle.backoff.specs.Run.{Answer}
use Rattle.carried_state.specs.Numbers.{numbers_of}
use Rattle.run_answer.specs.declared.Ran.{Ran}

-- a run's total: 0 where it is refused
abbrev pub total_in : Result Ran (Refusal ℕ) → ℤ
total_in (Ok r) = r.total
total_in (Err refusal) = pos 0

-- and the state that it returns: the given one where it is refused
abbrev pub end_in : List ℤ → Result Ran (Refusal ℕ) → List ℤ
end_in l (Ok r) = numbers_of r.end
end_in l (Err refusal) = l

-- what a run from the state in the nine numbers l returned, with both output slices as they are after it
abbrev pub answer_of : List ℤ → Result Ran (Refusal ℕ) → List ℤ → List ℕ → Answer (List ℤ)
answer_of l r points lengths =
    record { number = number_in r; place = place_in r; total = total_in r; end = end_in l r; points = points; lengths = lengths }
