-- A sentence taken apart into fragments that are scored and joined again, by the calls' own outcomes over the lent arrays. Assumes nothing.
use Rattle.std.specs.declared.option.Option.{Option}
use Rattle.std.specs.Prelude.{Bool, true, ◌&&◌, List, [], ◌++◌, ℕ, ℤ, eqb}
use Rattle.backoff.specs.Store.{Store}
use Rattle.fragments.specs.declared.Joined.{Joined}
use Rattle.fragments.specs.Fragment.{no_words}
use Rattle.fragments.specs.Outcome.{returned, crossed}
use Rattle.fragment_scoring.specs.Outcome.{fragment_outcome}
use Rattle.joining.specs.Outcome.{join_outcome}

-- words that are scored as one fragment, or two neighbours that are joined
pub data Bracketing : Type 0 where
  piece : List ℕ → Bracketing
  both : Bracketing → Bracketing → Bracketing

-- a bracketing whose first fragment is "an empty one with start's state"
pub data Begun : Type 0 where
  at-start : Begun
  onto : Begun → Bracketing → Begun

-- the words in order
unfoldable pub words_in : Bracketing → List ℕ
words_in (piece ws) = ws
words_in (both t u) = words_in t ++ words_in u

unfoldable pub words_since : Begun → List ℕ
words_since at-start = []
words_since (onto x t) = words_since x ++ words_in t

-- the empty fragment with the state in the nine numbers l
abbrev pub beginning : List ℤ → Joined
beginning l = crossed (returned (no_words l))

-- each join is given the fragments that its two sides returned, refused or not
module _ (o : Option Store) where
  unfoldable pub evaluate : Bracketing → Joined
  evaluate (piece ws) = fragment_outcome o ws
  evaluate (both t u) = join_outcome o (evaluate t).fragment (evaluate u).fragment

  unfoldable pub evaluate_since : List ℤ → Begun → Joined
  evaluate_since l at-start = beginning l
  evaluate_since l (onto x t) = join_outcome o (evaluate_since l x).fragment (evaluate t).fragment

  -- no join in it is refused
  unfoldable pub joins_accepted : Bracketing → Bool
  joins_accepted (piece ws) = true
  joins_accepted (both t u) = eqb (evaluate (both t u)).number 0 && (joins_accepted t && joins_accepted u)

  -- no join in it is refused, and no scoring
  unfoldable pub all_accepted : Bracketing → Bool
  all_accepted (piece ws) = eqb (evaluate (piece ws)).number 0
  all_accepted (both t u) = eqb (evaluate (both t u)).number 0 && (all_accepted t && all_accepted u)
