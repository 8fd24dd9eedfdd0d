-- What the functions of one word's step are held to. Assumes nothing.
use Rattle.std.specs.declared.option.Option.{Option}
use Rattle.std.specs.declared.option.Option.TheVariants.{Some}
use Rattle.std.specs.Prelude.{◌≡◌, true, cond, List, ℕ, ◌+◌, ◌≤◌, eqb, ℤ}
use Rattle.backoff.specs.Limits.{unknown_word}
use Rattle.backoff.specs.Words.{is_word}
use Rattle.backoff.specs.Store.{Step}
use Rattle.child_slots.specs.Children.{is_child, root_child}
use Rattle.carried_state.specs.Packed.{pushed, Carries}
use Rattle.word_walk.specs.declared.Walked.{Walked}
use Rattle.word_step.specs.declared.Kind.{Kind}
use Rattle.word_step.specs.declared.Kind.TheVariants.{Known, Unknown}
use Rattle.word_step.specs.declared.Stepped.{Stepped}
use Rattle.word_step.specs.Answers.{step_of}

-- w where the root has a child for it, else word 1 in its place
abbrev pub replaced : List ℤ → ℕ → ℕ
replaced check w = cond (is_child (root_child check w)) w unknown_word

-- a word that is scored as 1 is unknown
abbrev pub kind_of : ℕ → ℕ → Kind
kind_of v matched = cond (eqb v unknown_word) (Unknown matched) (Known matched)

-- the walk is that of a word, through at most four others
abbrev pub Answerable : ℕ → Walked → Type 0
Answerable v walked = (is_word v ≡ true) × (walked.passed ≤ 4)

-- the answer to a word v by its walk from a state of these words, and what it makes of the state
abbrev pub answered : ℕ → ℕ → Walked → Stepped
answered words v walked = record {
  score = record { kind = kind_of v (walked.passed + 1); points = walked.points; extended = walked.extended };
  next = record { count = walked.kept.count; words = pushed v words; owed = walked.kept.owed };
}

-- the code's answer to a word is this step, and the state that the word leaves is carried where the order is n
pub record SteppedTo (n : ℕ) (expected : Step) (r : Option Stepped) (backoffs : List ℤ) : Type 0 where
  pub is : step_of r backoffs ≡ expected
  pub carries : (stepped : Stepped) → r ≡ Some stepped → Carries n stepped.next backoffs
