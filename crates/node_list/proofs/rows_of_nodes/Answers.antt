use Rattle.std.specs.declared.result.Result.{Result}
use Rattle.std.specs.declared.result.Result.TheVariants.{Ok, Err}
use mathlib.Core.Path.{◌≡◌, sym, ap, ◌∙◌}
use mathlib.Core.List.{List}
use lib.IntN.{ℤ}
use Prim.Native.Nat.{ℕ}
use native.Mathlib.Omega.{arith}
use Rattle.std.proofs.lemmas.Result.{err_from_is_err_and}
use Rattle.double_array.specs.DoubleArray.{order_in}
use Rattle.slot_numbers.proofs.Items.{map_in}
use Rattle.array_nodes.specs.Nodes.{reached, slots_of}
use Rattle.array_nodes.specs.Gathering.{node_at, nodes_at}
use Rattle.array_nodes.proofs.Gathering.{reached-nodes, reached-back}
use Rattle.node_rows.specs.Rows.{table_of}
use Rattle.node_rows.specs.Steps.{RowsWritten}
use Rattle.backoff.specs.declared.Reason.{Reason}
use Rattle.node_list.specs.Steps.{NodesAsRows}
use Rattle.node_list.proofs.Listed.{rows_limits, not_as_many, broken-no-list}
use Rattle.node_list.proofs.rows_of_nodes.Goals as goal

module _ (base check table : List ℤ) (work : List ℕ) (slots : work ≡ slots_of (reached base check (order_in check))) (nodes : nodes_at base check work ≡ reached base check (order_in check)) where
  as_rows : (r : Result Unit Reason) → RowsWritten base check work table r → NodesAsRows base check table work r
  unfolding nodes_at
  as_rows (Ok x) e = record { rows = e ∙ ap (table_of base check) nodes; slots = slots }
  as_rows (Err x) e =
      let d = e.1 in
      (e.0, broken-no-list base check (reached base check (order_in check)) (node_at base check d.0) (rw (← nodes) (map_in (λ (x : ℕ). node_at base check x) work d.0 d.1)) d.2)

pub returns-in_err-gather : goal.returns-in_err-gather
returns-in_err-gather c =
    let a = c.args.array in
    let p = err_from_is_err_and c.from_residual.result c.from_residual.ensures.1 in
    let g = c.in_err-gather.ensures in
    rw (p.1, p.2) (g.0, not_as_many a.base.now a.check.now (reached a.base.now a.check.now (order_in a.check.now)) (λ e. g.1 (e ∙ sym (c.gather.auto.work ∙ c.requires.1))))

pub sort-requires-clause-in_bounds : goal.sort-requires-clause-in_bounds
sort-requires-clause-in_bounds c =
    let a = c.args.array in
    let r = rows_limits a.base.now a.check.now a.is_array in
    let n = c.gather.auto.work ∙ c.requires.1 in
    (omega (arith, r.0), omega (arith, r.1), omega (arith, c.requires.0))

pub write_rows-requires : goal.write_rows-requires
write_rows-requires c =
    let a = c.args.array in
    (rw c.sort.ensures (reached-nodes a.base.now a.check.now a.is_array), omega (arith, c.sort.auto.work, c.sort.auto.table, c.gather.auto.work, c.requires.0, c.requires.1))

pub returns : goal.returns
unfolding nodes_at
returns c =
    let a = c.args.array in
    let e : nodes_at a.base.now a.check.now c.sort.new.work ≡ reached a.base.now a.check.now (order_in a.check.now) = ap (nodes_at a.base.now a.check.now) c.sort.ensures ∙ reached-back a.base.now a.check.now a.is_array in
    as_rows a.base.now a.check.now c.write_rows.new.table c.sort.new.work c.sort.ensures e c.write_rows.result c.write_rows.ensures
