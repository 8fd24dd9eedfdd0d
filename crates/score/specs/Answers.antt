-- What the code's start returns, as the answer that crate backoff defines. Assumes nothing.
use Rattle.std.specs.declared.option.Option.{Option}
use Rattle.std.specs.declared.result.Result.{Result}
use Rattle.std.specs.declared.result.Result.TheVariants.{Ok, Err}
use Rattle.std.specs.Prelude.{List, ℕ, ℤ}
use Rattle.backoff.specs.declared.Refusal.{Refusal}
use Rattle.backoff.specs.Refusal.{number_in, place_in}
use Rattle.backoff.specs.NineNumbers.{nine_zeros}
use Rattle.backoff.specs.Store.{Store, Started as StartAnswer, start_outcome}
use Rattle.carried_state.specs.declared.State.{State}
use Rattle.carried_state.specs.Numbers.{numbers_of}

-- the state that a start returns: the empty one where it is refused
abbrev pub state_of : Result State (Refusal ℕ) → List ℤ
state_of (Ok s) = numbers_of s
state_of (Err refusal) = nine_zeros

abbrev pub started_of : Result State (Refusal ℕ) → StartAnswer
started_of r = record { number = number_in r; place = place_in r; state = state_of r }

-- what start answers over what it is lent
abbrev pub started_over : Option Store → StartAnswer
started_over o = start_outcome o nine_zeros
