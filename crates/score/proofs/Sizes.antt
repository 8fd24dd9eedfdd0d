-- How large the total of a run gets. Assumes nothing.
use mathlib.Core.Path.{◌≡◌, refl}
use mathlib.Core.Bool.{Bool, true, false, cond}
use mathlib.Core.List.{List}
use Prim.Native.Nat.{ℕ, ◌*◌, ◌≤◌}
use native.Mathlib.Omega.{arith}
use lib.Dec.{eqb}
use lib.ListN.{length}
use lib.IntN.{ℤ, nat_abs}
use Rattle.backoff.specs.Limits.{run_limit, order_limit, largest_backoff}
use Rattle.backoff.specs.Refusal.{array_head, bad_state}
use Rattle.backoff.specs.Run.{Run, refused_run}
use Rattle.backoff.specs.Store.{run_outcome}
use Rattle.backoff.proofs.Sizes.{total_size}
use Rattle.double_array.specs.DoubleArray.{is_array, store_in, opened}
use Rattle.double_array.proofs.DoubleArray.{opened_some, opened-none, opened-order}
use Rattle.word_walk.proofs.Rows.{rows-in_probability, rows-in_backoff}

-- no run's total gets further from 0
abbrev pub run_total : ℕ
run_total = run_limit * (order_limit * largest_backoff)

pub run-total_small : (base check : List ℤ) (l : List ℤ) (r : Run) → nat_abs (run_outcome (opened base check) l r).total ≤ run_total
run-total_small base check l r = go (is_array base check) refl
  where
    go : (b : Bool) → is_array base check ≡ b → nat_abs (run_outcome (opened base check) l r).total ≤ run_total
    go true e = rw (opened_some base check e) (total_size (store_in base check) (rows-in_probability base check) (rows-in_backoff base check) (unfold store_in in (opened-order base check e).1) l r)
    go false e = rw (opened-none base check e) (unfold run_outcome refused_run in elim (eqb (length l) 9) as (λ b. nat_abs (cond b (refused_run array_head 0 l r) (refused_run bad_state 0 l r)).total ≤ run_total) [ true ↦ omega arith | false ↦ omega arith ])
