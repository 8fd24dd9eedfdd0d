-- What a run returns, without its slices. Assumes nothing.
use Rattle.std.specs.declared.result.Result.{Result}
use Rattle.std.specs.Prelude.{List, ℕ, ℤ, pos}
use Rattle.integer.specs.Integer.{sum}
use Rattle.backoff.specs.declared.Refusal.{Refusal}
use Rattle.backoff.specs.Refusal.{broken_node, number_in, place_in}
use Rattle.backoff.specs.NineNumbers.{nine}
use Rattle.backoff.specs.Store.{Ran as Words, ran, refused_at}
use Rattle.run_answer.specs.declared.Ran.{Ran}
use Rattle.run_answer.specs.Answers.{total_in, end_in}

pub record Summed : Type 0 where
  pub number : ℕ
  pub place : ℕ
  pub total : ℤ
  pub end : List ℤ

-- what a run from the state in the nine numbers l returned
abbrev pub summed_of : List ℤ → Result Ran (Refusal ℕ) → Summed
summed_of l r = record { number = number_in r; place = place_in r; total = total_in r; end = end_in l r }

-- of words that were scored from the state in the nine numbers l
abbrev pub summed : List ℤ → Words → Summed
summed l (ran ps bs s) = record { number = 0; place = 0; total = sum ps; end = nine s }
summed l (refused_at k) = record { number = broken_node; place = k; total = pos 0; end = l }
