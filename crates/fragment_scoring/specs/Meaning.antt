-- What the answer of scoring means over the rows that the lent array holds, and when each number is returned. The sentences quoted are document 02's, of
-- T-06. Assumes nothing.
use Rattle.std.specs.Prelude.{◌≡◌, false, List, [], ◌∷◌, ℕ, ◌<◌, ℤ, length}
use Rattle.backoff.specs.Limits.{run_limit}
use Rattle.backoff.specs.Refusal.{array_head, broken_node, word_count}
use Rattle.backoff.specs.FirstMet.{Line, ◌when◌, ◌at◌, FirstMet}
use Rattle.backoff.specs.State.{empty}
use Rattle.double_array.specs.DoubleArray.{is_array, store_in}
use Rattle.word_walk.specs.Rows.{array_model}
use Rattle.score.specs.Meaning.{StuckWord}
use Rattle.fragments.specs.declared.Joined.{Joined}
use Rattle.fragments.specs.Fragment.{packed, fragment_of}
use Rattle.fragments.specs.Outcome.{to_numbers, RefusedIsEmpty}

-- "refuses by 11, 14 and 12 as a run does"
abbrev pub scoring_refusals : List ℤ → List ℤ → List ℕ → List Line
scoring_refusals base check ws =
    array_head when (is_array base check ≡ false)
    ∷ word_count when (run_limit < length ws)
    ∷ broken_node at StuckWord (store_in base check) empty ws
    ∷ []

-- An accepted scoring gives the fragment of its words, a refused one the empty fragment.
pub record ScoringMeans (base check : List ℤ) (ws : List ℕ) (r : Joined) : Type 0 where
  pub verdict : FirstMet (scoring_refusals base check ws) r.number r.place
  pub accepted : r.number ≡ 0 → r.fragment ≡ to_numbers (packed (fragment_of (array_model base check) ws))
  pub refused : RefusedIsEmpty r
