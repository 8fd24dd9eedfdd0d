-- What joining two fragments returns over the lent arrays, which are a store unless 11 meets them. Assumes nothing.
use Rattle.std.specs.declared.option.Option.{Option}
use Rattle.std.specs.declared.option.Option.TheVariants.{Some, None}
use Rattle.std.specs.Prelude.{cond, List, ◌++◌, ℕ, ◌+◌, ◌-◌, take, ℤ, ◌+ℤ◌, ◌-ℤ◌, leb, ltb}
use Rattle.integer.specs.Integer.{sum}
use Rattle.backoff.specs.Limits.{run_limit}
use Rattle.backoff.specs.Refusal.{array_head, broken_node, word_count, bad_fragment}
use Rattle.backoff.specs.State.{empty}
use Rattle.backoff.specs.NineNumbers.{nine, state_in}
use Rattle.backoff.specs.Store.{Store, Ran, ran, refused_at, run_over}
use Rattle.fragments.specs.declared.Fragment.{Fragment as Numbers}
use Rattle.fragments.specs.declared.Joined.{Joined}
use Rattle.fragments.specs.Fragment.{Fragment, fragment_ok}
use Rattle.fragments.specs.Outcome.{Reply, returned, refused_by, fragment_in, crossed}

-- the two fragments, once the second's kept words are scored from nothing, which gave `less`, and after the first's end state, which gave `plus` and left `end`
abbrev pub joined_fragment : ℕ → Fragment (List ℤ) → Fragment (List ℤ) → ℤ → ℤ → List ℤ → Fragment (List ℤ)
joined_fragment n a b less plus end = record {
  total = a.total +ℤ b.total -ℤ less +ℤ plus;
  first = take (n - 1) (a.first ++ b.first);
  count = a.count + b.count;
  end = cond (leb (n - 1) b.count) b.end end;
}

-- "then comes 12 with 0"
abbrev pub joined_as : ℕ → Fragment (List ℤ) → Fragment (List ℤ) → Ran → Ran → Reply
joined_as n a b (ran ps bs s) (ran qs cs t) = returned (joined_fragment n a b (sum ps) (sum qs) (nine t))
joined_as n a b (ran ps bs s) (refused_at k) = refused_by broken_node 0
joined_as n a b (refused_at j) second = refused_by broken_node 0

-- 11, then 21 for the first and for the second, then 14, then 12
abbrev pub joined_in : Option Store → Fragment (List ℤ) → Fragment (List ℤ) → Reply
joined_in None a b = refused_by array_head 0
joined_in (Some S) a b =
    cond (fragment_ok S.order a)
    (cond (fragment_ok S.order b)
    (cond (ltb run_limit (a.count + b.count)) (refused_by word_count 0)
    (joined_as S.order a b (run_over S b.first empty 1) (run_over S b.first (state_in a.end) 1)))
    (refused_by bad_fragment 2))
    (refused_by bad_fragment 1)

unfoldable pub join_outcome : Option Store → Numbers → Numbers → Joined
join_outcome o one two = crossed (joined_in o (fragment_in one) (fragment_in two))
