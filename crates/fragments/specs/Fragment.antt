-- Fragments of a sentence, over a model, and check 21. The sentences quoted are document 02's, of T-06. Assumes nothing.
use Rattle.std.specs.Prelude.{Bool, List, [], ◌∷◌, ℕ, ◌*◌, ◌-◌, min, length, take, ℤ, pos, nat_abs, eqb, leb}
use Rattle.integer.specs.Integer.{sum}
use Rattle.backoff.specs.Limits.{largest_backoff}
use Rattle.backoff.specs.Model.{Model, reach}
use Rattle.backoff.specs.State.{State, empty}
use Rattle.backoff.specs.Run.{run_points, run_end}
use Rattle.backoff.specs.NineNumbers.{all, nine, state_in, state_ok}

-- A fragment "keeps its total, its first words (at most n−1), its word count and its end state". The first words are as given, in the order of the text.
-- `S` is what a state is held in.
pub record Fragment (S : Type 0) : Type 0 where
  pub total : ℤ
  pub first : List ℕ
  pub count : ℕ
  pub end : S

-- no words: the state alone
unfoldable pub no_words : {S : Type 0} → S → Fragment S
no_words s = record { total = pos 0; first = []; count = 0; end = s }

-- the state as nine numbers, and the state that nine numbers are
unfoldable pub packed : Fragment State → Fragment (List ℤ)
packed f = record { total = f.total; first = f.first; count = f.count; end = nine f.end }

unfoldable pub unpacked : Fragment (List ℤ) → Fragment State
unpacked f = record { total = f.total; first = f.first; count = f.count; end = state_in f.end }

-- What 21 leaves of a fragment where the order is n: its kept words are "as many as the smaller of n−1 and its word count", its state is none "that 16
-- would refuse", and its total is not "further from 0 than its word count times n times the largest back-off allowed".
unfoldable pub fragment_ok : ℕ → Fragment (List ℤ) → Bool
fragment_ok n f =
    all
    (eqb (length f.first) (min (n - 1) f.count)
    ∷ state_ok n f.end
    ∷ leb (nat_abs f.total) (f.count * (n * largest_backoff))
    ∷ [])

module _ (M : Model) where
  -- the words ws scored from the state s, as a fragment
  unfoldable pub fragment_from : State → List ℕ → Fragment State
  fragment_from s ws = record { total = sum (run_points M s ws); first = take (reach M) ws; count = length ws; end = run_end M s ws }

  -- "A fragment is scored without left context"
  unfoldable pub fragment_of : List ℕ → Fragment State
  fragment_of ws = fragment_from empty ws
