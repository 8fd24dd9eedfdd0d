-- The state that the next word of a run is scored from. Assumes nothing.
use Rattle.std.specs.declared.option.Option.{Option}
use Rattle.std.specs.declared.option.Option.TheVariants.{Some, None}
use Rattle.std.specs.Prelude.{◌≡◌, cond, List, ℕ, eqb, ℤ}
use Rattle.backoff.specs.Limits.{start_word, end_word}
use Rattle.backoff.specs.State.{State, empty}
use Rattle.backoff.specs.Store.{Store, Step, scored, stuck, word_step}
use Rattle.carried_state.specs.declared.Packed.{Packed}
use Rattle.carried_state.specs.Packed.{held_in, Carries}

-- the state that a step leaves, where 12 does not refuse it
abbrev pub left_by : Step → Option State
left_by (scored points byte next) = Some next
left_by stuck = None

-- the state that the next word is scored from, where a word given as w has left s: behind a 3 that of start, where 12 does not refuse it
abbrev pub next_state : Store → ℕ → State → Option State
next_state S w s = cond (eqb w end_word) (left_by (word_step S empty start_word)) (Some s)

-- the code's answer is this state, which is carried where the order is n
abbrev pub NextIs : ℕ → Option State → Option Packed → List ℤ → Type 0
NextIs n expected (Some next) backoffs = (expected ≡ Some (held_in next backoffs)) × Carries n next backoffs
NextIs n expected None backoffs = expected ≡ None
