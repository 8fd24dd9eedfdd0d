-- The code's state as its nine numbers. Assumes nothing.
use Rattle.std.specs.Prelude.{List, ◌∷◌, ◌++◌, take, drop, get_or, ℤ, pos}
use Rattle.carried_state.specs.declared.State.{State}

-- "nine signed numbers of 32 bits: count, four words newest first, four back-offs"
unfoldable pub numbers_of : State → List ℤ
numbers_of s = s.count ∷ (s.words ++ s.backoffs)

-- the state that these nine numbers are
unfoldable pub state_from : List ℤ → State
state_from l = record { count = get_or l 0 (pos 0); words = take 4 (drop 1 l); backoffs = take 4 (drop 5 l) }
