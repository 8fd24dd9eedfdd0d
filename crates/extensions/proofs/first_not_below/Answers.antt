-- The last row of the window that is not above k is the first that is not below it, or the row before that.
use Rattle.std.proofs.Common.{ℕ, ℤ, List, ◌+◌, ◌<◌, ◌≤◌, arith}
use Rattle.std.proofs.lemmas.Bool.Decides.{nat_tests}
use Rattle.rows.specs.Table.{rows_of}
use Rattle.rows.specs.Good.{Good}
use Rattle.rows.specs.Keys.{row_key, key_of}
use Rattle.row_search.specs.ByKey.{Bracket, Window}
use Rattle.row_search.proofs.ByKey.{keys_ascend}
use Rattle.extensions.proofs.first_not_below.Goals as goal

module _ (t : List ℤ) (g : Good t (rows_of t)) (k i : ℕ) (h : Window t k i (i + 1)) where
  row_within : i < rows_of t
  row_within = let w = h.within in omega arith

  bound_after : row_key t i < k → Bracket t k (i + 1) (i + 1)
  bound_after l = record {
    order = omega arith;
    within = h.within;
    below = λ j m. let e = keys_ascend t g j i (omega arith) row_within in omega arith;
    above = λ j m n. let e = h.above j m n in omega arith;
  }

  bound_here : k ≤ row_key t i → Bracket t k i i
  bound_here l = record {
    order = omega arith;
    within = let w = h.within in omega arith;
    below = h.below;
    above = λ j m n. let e = keys_ascend t g i j m n in omega arith;
  }

pub returns-then-key_less : goal.returns-then-key_less
returns-then-key_less c =
    let e : row_key c.args.table.now c.last_not_above-last.result < key_of c.args.k.high c.args.k.low = grind (arith, nat_tests) in
    bound_after _ c.requires _ _ c.last_not_above-last.ensures e

pub returns : goal.returns
returns c =
    let e : key_of c.args.k.high c.args.k.low ≤ row_key c.args.table.now c.last_not_above-last.result = grind (arith, nat_tests) in
    bound_here _ c.requires _ _ c.last_not_above-last.ensures e
