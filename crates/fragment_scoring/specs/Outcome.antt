-- What scoring words as a fragment returns over the lent arrays, which are a store unless 11 meets them. Assumes nothing.
use Rattle.std.specs.declared.option.Option.{Option}
use Rattle.std.specs.declared.option.Option.TheVariants.{Some, None}
use Rattle.std.specs.Prelude.{◌≡◌, cond, List, ℕ, length, ℤ, ltb}
use Rattle.integer.specs.Integer.{sum}
use Rattle.backoff.specs.Limits.{run_limit}
use Rattle.backoff.specs.Refusal.{array_head, broken_node, word_count}
use Rattle.backoff.specs.State.{empty}
use Rattle.backoff.specs.Run.{Answer}
use Rattle.backoff.specs.NineNumbers.{nine}
use Rattle.backoff.specs.Store.{Store, Ran, ran, refused_at, run_over}
use Rattle.carried_state.specs.Numbers.{numbers_of}
use Rattle.fragments.specs.declared.Joined.{Joined}
use Rattle.fragments.specs.Outcome.{Reply, returned, refused_by, crossed, scored_fragment}

-- 12 has the word's number
abbrev pub scored_as : ℕ → List ℕ → Ran → Reply
scored_as n ws (ran ps bs s) = returned (scored_fragment n ws (sum ps) (nine s))
scored_as n ws (refused_at k) = refused_by broken_node k

-- "refuses by 11, 14 and 12 as a run does"
abbrev pub scored_in : Option Store → List ℕ → Reply
scored_in None ws = refused_by array_head 0
scored_in (Some S) ws = cond (ltb run_limit (length ws)) (refused_by word_count 0) (scored_as S.order ws (run_over S ws empty 1))

unfoldable pub fragment_outcome : Option Store → List ℕ → Joined
fragment_outcome o ws = crossed (scored_in o ws)

-- a fragment is returned with the number, place, total and end state that a run returned
pub record SameResult (j : Joined) (a : Answer (List ℤ)) : Type 0 where
  pub number : j.number ≡ a.number
  pub place : j.place ≡ a.place
  pub total : j.fragment.total ≡ a.total
  pub state : numbers_of j.fragment.state ≡ a.end
