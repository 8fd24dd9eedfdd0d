-- The outcome of unload. Assumes nothing.
use Rattle.std.specs.Prelude.{cond, ◌&&◌, List, ℕ, ◌*◌, leb, length, replicate, ℤ, pos}
use Rattle.backoff.specs.Refusal.{array_head, broken_node, short_slice}
use Rattle.backoff.specs.Run.{written}
use Rattle.backoff.specs.Refusal.{Verdict}
use Rattle.backoff.specs.Refusal.{Accepted, Refused}
use Rattle.double_array.specs.DoubleArray.{is_array, order_in}
use Rattle.array_nodes.specs.Nodes.{Reached, reached, slots_of}
use Rattle.node_rows.specs.Rows.{table_of}
use Rattle.node_list.specs.Listed.{rows_in, is_list}

-- what unload answers, and what the lent slices hold when it returns
pub record Unloaded : Type 0 where
  pub answer : Verdict
  pub table : List ℤ
  pub work : List ℕ

module _ (base check table : List ℤ) (work : List ℕ) where
  -- 11 and 15: "untouched"
  unfoldable pub untouched : ℕ → Unloaded
  untouched number = record { answer = Refused number 0; table = table; work = work }

  -- 12: "the rows' part of table and work 0"
  unfoldable pub emptied : Unloaded
  emptied =
      record {
        answer = Refused broken_node 0;
        table = written (replicate (8 * rows_in base) (pos 0)) table;
        work = written (replicate (rows_in base) 0) work;
      }

  -- "leaves in work the slots that the rows' nodes have in the lent array, and all past the rows untouched"
  unfoldable pub filled : List Reached → Unloaded
  filled rs = record { answer = Accepted; table = written (table_of base check rs) table; work = written (slots_of rs) work }

  -- 11, then 15, then 12
  unfoldable pub unload_outcome : Unloaded
  unload_outcome =
      cond (is_array base check)
      (cond (leb (8 * rows_in base) (length table) && leb (rows_in base) (length work))
      (cond (is_list base check (reached base check (order_in check))) (filled (reached base check (order_in check))) emptied)
      (untouched short_slice))
      (untouched array_head)
