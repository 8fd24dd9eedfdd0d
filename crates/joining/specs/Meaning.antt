-- What the answer of joining means over the rows that the lent array holds, and when each number is returned. The sentences quoted are document 02's, of
-- T-06. Assumes nothing.
use Rattle.std.specs.Prelude.{◌≡◌, ◌⊎◌, true, false, List, [], ◌∷◌, ℕ, ◌+◌, ◌≤◌, ◌<◌, ℤ}
use Rattle.backoff.specs.Limits.{run_limit}
use Rattle.backoff.specs.Refusal.{array_head, broken_node, word_count, bad_fragment}
use Rattle.backoff.specs.FirstMet.{Line, ◌when◌, ◌at◌, FirstMet}
use Rattle.backoff.specs.State.{empty}
use Rattle.backoff.specs.NineNumbers.{state_in}
use Rattle.double_array.specs.DoubleArray.{is_array, order_in, store_in}
use Rattle.word_walk.specs.Rows.{array_model}
use Rattle.score.specs.Meaning.{StuckWords}
use Rattle.fragments.specs.declared.Fragment.{Fragment as Numbers}
use Rattle.fragments.specs.declared.Joined.{Joined}
use Rattle.fragments.specs.Fragment.{packed, unpacked, fragment_ok}
use Rattle.fragments.specs.Outcome.{fragment_in, to_numbers, RefusedIsEmpty}
use Rattle.joining.specs.Join.{join}

-- 21, "with 1 or 2 for the first or second": those of two fragments, counted from 0, that do not pass it where the order is n
abbrev pub BadFragment : ℕ → Numbers → Numbers → ℕ → Type 0
BadFragment n one two i = ((i ≡ 0) × (fragment_ok n (fragment_in one) ≡ false)) ⊎ ((i ≡ 1) × (fragment_ok n (fragment_in two) ≡ false))

-- the second's kept words, "scored from nothing" and "scored after the first's end state", meet 12
abbrev pub StuckJoin : List ℤ → List ℤ → Numbers → Numbers → Type 0
StuckJoin base check one two =
    StuckWords (store_in base check) empty (fragment_in two).first
    ⊎ StuckWords (store_in base check) (state_in (fragment_in one).end) (fragment_in two).first

-- 21 is "tried after 11; joined words above 65,535 give 14 next, then comes 12 with 0"
abbrev pub join_refusals : List ℤ → List ℤ → Numbers → Numbers → List Line
join_refusals base check one two =
    array_head when (is_array base check ≡ false)
    ∷ bad_fragment at BadFragment (order_in check) one two
    ∷ word_count when (run_limit < one.count + two.count)
    ∷ broken_node when StuckJoin base check one two
    ∷ []

-- both passed 21 and have no more words than a run may have, and the fragment is theirs, joined by the formula
pub record JoinedByFormula (base check : List ℤ) (one two r : Numbers) : Type 0 where
  pub first_passes : fragment_ok (order_in check) (fragment_in one) ≡ true
  pub second_passes : fragment_ok (order_in check) (fragment_in two) ≡ true
  pub few : one.count + two.count ≤ run_limit
  pub is : r ≡ to_numbers (packed (join (array_model base check) (unpacked (fragment_in one)) (unpacked (fragment_in two))))

-- An accepted join gives the two fragments joined by the formula, for any two fragments; a refused one the empty fragment.
pub record JoinMeans (base check : List ℤ) (one two : Numbers) (r : Joined) : Type 0 where
  pub verdict : FirstMet (join_refusals base check one two) r.number r.place
  pub accepted : r.number ≡ 0 → JoinedByFormula base check one two r.fragment
  pub refused : RefusedIsEmpty r
