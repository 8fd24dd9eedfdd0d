-- What the inner functions of joining are held to. Assumes nothing.
use Rattle.std.specs.declared.option.Option.{Option}
use Rattle.std.specs.declared.option.Option.TheVariants.{Some, None}
use Rattle.std.specs.Prelude.{◌≡◌, true, cond, List, ℕ, ◌+◌, ◌*◌, ◌≤◌, ℤ, eqb, ltb}
use Rattle.integer.specs.Integer.{sum}
use Rattle.backoff.specs.Limits.{run_limit, order_limit, largest_backoff}
use Rattle.backoff.specs.NineNumbers.{nine}
use Rattle.backoff.specs.Store.{Store, Ran, ran, refused_at}
use Rattle.backoff.specs.Refusal.{Verdict, Accepted, Refused, array_head, word_count, bad_fragment}
use Rattle.carried_state.specs.Numbers.{numbers_of}
use Rattle.fragments.specs.Fragment.{Fragment, fragment_ok}
use Rattle.joining.specs.declared.Rescored.{Rescored}

-- the most points of a word, from 0
abbrev pub most_points : ℕ
most_points = order_limit * largest_backoff

-- which of two fragments is the first that does not pass 21 where the order is n, 0 if both pass
abbrev pub first_bad : ℕ → Fragment (List ℤ) → Fragment (List ℤ) → ℕ
first_bad n a b = cond (fragment_ok n a) (cond (fragment_ok n b) 0 2) 1

-- 21 for it, then 14 for so many words
abbrev pub pair_fault : ℕ → ℕ → Verdict
pair_fault bad words = cond (eqb bad 0) (cond (ltb run_limit words) (Refused word_count 0) Accepted) (Refused bad_fragment bad)

-- what meets two fragments before any word is scored: 11, 21, 14
abbrev pub join_fault : Option Store → Fragment (List ℤ) → Fragment (List ℤ) → Verdict
join_fault None a b = Refused array_head 0
join_fault (Some S) a b = pair_fault (first_bad S.order a b) (a.count + b.count)

-- what holds where nothing does, and the order is n
pub record Passed (n : ℕ) (a b : Fragment (List ℤ)) : Type 0 where
  pub first : fragment_ok n a ≡ true
  pub second : fragment_ok n b ≡ true
  pub few : a.count + b.count ≤ run_limit

-- the same words scored from nothing, with the points ps, and after a state, with the points qs and the state in the nine numbers `end` left
pub record BothScored (ps qs : List ℤ) (end : List ℤ) (r : Rescored) : Type 0 where
  pub less_is : r.less ≡ sum ps
  pub plus-is : r.plus ≡ sum qs
  pub end_is : numbers_of r.end ≡ end

abbrev pub RescoredIs : List ℤ → List ℤ → List ℤ → Option Rescored → Type 0
RescoredIs ps qs end (Some r) = BothScored ps qs end r
RescoredIs ps qs end None = ⊥

abbrev pub RescoredAs : Ran → Ran → Option Rescored → Type 0
RescoredAs (ran ps bs s) (ran qs cs t) r = RescoredIs ps qs (nine t) r
RescoredAs (ran ps bs s) (refused_at k) r = r ≡ None
RescoredAs (refused_at j) second r = r ≡ None
