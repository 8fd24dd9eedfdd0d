-- The code's answer to a word as a step of crate backoff. Assumes nothing.
use Rattle.std.specs.declared.option.Option.{Option}
use Rattle.std.specs.declared.option.Option.TheVariants.{Some, None}
use Rattle.std.specs.Prelude.{Bool, cond, List, ℕ, ◌+◌, ℤ}
use Rattle.backoff.specs.Store.{Step, scored, stuck}
use Rattle.carried_state.specs.Packed.{held_in}
use Rattle.word_step.specs.declared.Kind.{Kind}
use Rattle.word_step.specs.declared.Kind.TheVariants.{Known, Unknown}
use Rattle.word_step.specs.declared.Stepped.{Stepped}

-- "its matched length, plus 8 if unknown"
abbrev pub kind_byte : Kind → ℕ
kind_byte (Known matched) = matched
kind_byte (Unknown matched) = matched + 8

-- and "16 added" where the matched row is extended
abbrev pub byte_of : Kind → Bool → ℕ
byte_of kind extended = kind_byte kind + cond extended 16 0

-- a word's answer as a step, the back-offs of the state that it leaves in a lent array
abbrev pub step_of : Option Stepped → List ℤ → Step
step_of (Some r) backoffs = scored r.score.points (byte_of r.score.kind r.score.extended) (held_in r.next backoffs)
step_of None backoffs = stuck
