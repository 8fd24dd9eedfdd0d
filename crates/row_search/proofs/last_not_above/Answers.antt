-- Half of the window is left.
use Rattle.std.proofs.Common.{ℕ, ◌+◌, ◌-◌, ◌/◌, ◌<◌, ◌≤◌, subst, sym, arith}
use Rattle.std.proofs.lemmas.Bool.Decides.{nat_tests}
use Rattle.rows.specs.Keys.{row_key, key_of}
use Rattle.row_search.specs.ByKey.{Window}
use Rattle.row_search.proofs.ByKey.{window_up, window_down}
use Rattle.row_search.proofs.last_not_above.Goals as goal
use Rattle.row_search.proofs.last_not_above.Goals.{then-not-key_less, else-not-key_less}

pub loop-size-preserved : goal.loop-size-preserved
loop-size-preserved c =
    let t = c.args.table.now in
    let k = key_of c.args.k.high c.args.k.low in
    let i = c.loop-size.invariant in
    let from = c.loop-size.from in
    let size = c.loop-size.size in
    let half = size / 2 in
    record {
      some = omega arith;
      window =
          elim c.if-not-key_less.branch [
            | then-not-key_less w ↦
                let e : row_key t (from + half) ≤ k = grind (arith, nat_tests) in
                subst (λ (f : ℕ). Window t k f (f + (size - half))) (sym w.from-is) (window_up t c.requires.0 k from size half (omega arith) i.some i.window e)
            | else-not-key_less w ↦
                let e : k < row_key t (from + half) = grind (arith, nat_tests) in
                subst (λ (f : ℕ). Window t k f (f + (size - half))) (sym w.from-is) (window_down t c.requires.0 k from size half (omega arith) i.some i.window e)
          ];
    }
