use mathlib.Core.Path.{◌≡◌, sym, ap, ap₂, ◌∙◌}
use mathlib.Core.Bool.{Bool, true, false, ◌&&◌}
use mathlib.Core.List.{List}
use Prim.Native.Nat.{ℕ, ◌≤◌}
use native.Mathlib.Omega.{arith}
use borrow.Author.Tests.{eqb-true}
use lib.Dec.{eqb}
use lib.ListN.{length, get_or}
use lib.IntN.{ℤ}
use Rattle.integer.proofs.Ranges.{and_left}
use Rattle.backoff.specs.Limits.{row_limit}
use Rattle.backoff.specs.Refusal.{number_of}
use Rattle.rows.specs.Table.{rows_of, order_of}
use Rattle.list.specs.Check.{verdict}
use Rattle.list.specs.Marks.{Marked}
use Rattle.list.proofs.Check.{accepted-good, number-accepted}
use Rattle.list.proofs.Marks.{lent_none, lent_length}
use Rattle.double_array.specs.DoubleArray.{order_in, is_array}
use Rattle.double_array.proofs.DoubleArray.{opened-sizes}
use Rattle.array_nodes.specs.Nodes.{reached, slots_of}
use Rattle.array_nodes.proofs.Gathering.{length-slots_of, slots-low, readable}
use Rattle.node_rows.specs.Rows.{table_of}
use Rattle.node_rows.proofs.Rows.{rows-table_of}
use Rattle.node_list.specs.Listed.{rows_in, is_list}
use Rattle.node_list.specs.Steps.{marks_right, Comparable}
use Rattle.node_list.proofs.Listed.{rows_limits, not_listed, listed_right, marks_right_lem}
use Rattle.node_list.proofs.is_unloaded.Goals as goal

module _ (base check : List ℤ) (opens : is_array base check ≡ true) (table : List ℤ) (work : List ℕ) (rows : table ≡ table_of base check (reached base check (order_in check))) (slots : work ≡ slots_of (reached base check (order_in check))) (all : length work ≡ rows_in base) where
  few : length work ≤ row_limit
  few = omega (arith, (rows_limits base check opens).1, all)

  long : length work ≡ length (reached base check (order_in check))
  long = ap length slots ∙ length-slots_of (reached base check (order_in check))

  module _ (marks : List Bool) (many : length marks ≡ length work) (r : Bool) (listed : r ≡ (eqb (number_of (verdict table)) 0 && eqb (order_of table) (order_in check))) where
    listed_rows : r ≡ (eqb (number_of (verdict (table_of base check (reached base check (order_in check))))) 0 && eqb (order_of (table_of base check (reached base check (order_in check)))) (order_in check))
    listed_rows = listed ∙ ap (λ (t : List ℤ). eqb (number_of (verdict t)) 0 && eqb (order_of t) (order_in check)) rows

    no_list : r ≡ false → r ≡ is_list base check (reached base check (order_in check))
    no_list e = e ∙ sym (not_listed base check (reached base check (order_in check)) (sym listed_rows ∙ e))

    comparable : r ≡ true → Comparable base check table marks work
    comparable e =
        let t = table_of base check (reached base check (order_in check)) in
        let z = opened-sizes base check opens in
        let accepted = number-accepted t (eqb-true (number_of (verdict t)) 0 (and_left _ (eqb (order_of t) (order_in check)) (sym listed_rows ∙ e))) in
        record {
          good = rw rows (accepted-good t accepted);
          few = omega (arith, long, ap rows_of rows ∙ rows-table_of base check (reached base check (order_in check)));
          marked = many;
          slots = λ j h. omega (arith, slots-low base check opens j, z.same, ap (λ (l : List ℕ). get_or l j 0) slots);
        }

    is_right_list : r ≡ true → Marked table (rows_of table) marks → (b : Bool) → b ≡ marks_right base check table marks 0 work → b ≡ is_list base check (reached base check (order_in check))
    is_right_list e m b q =
        let n : length (reached base check (order_in check)) ≡ rows_in base = sym long ∙ all in
        let marked : Marked (table_of base check (reached base check (order_in check))) (rows_of (table_of base check (reached base check (order_in check)))) marks = rw rows at m in
        q
        ∙ ap₂ (λ (t : List ℤ) (l : List ℕ). marks_right base check t marks 0 l) rows slots
        ∙ marks_right_lem base check (reached base check (order_in check)) (readable base check opens) marks marked (many ∙ long)
        ∙ sym (listed_right base check (reached base check (order_in check)) n (sym listed_rows ∙ e))

pub slice_bounds-marks-end : goal.slice_bounds-marks-end
slice_bounds-marks-end c = let a = c.args.array in few a.base.now a.check.now a.is_array c.args.table.now c.args.work.now c.requires.0 c.requires.1 c.requires.2

pub slice_bounds-marks-end-2 : goal.slice_bounds-marks-end-2
slice_bounds-marks-end-2 c = let a = c.args.array in sym (lent_length (length c.args.work.now) row_limit (few a.base.now a.check.now a.is_array c.args.table.now c.args.work.now c.requires.0 c.requires.1 c.requires.2))

pub is_listed-requires : goal.is_listed-requires
is_listed-requires c = lent_none (length c.args.work.now) row_limit

pub are_right-requires : goal.are_right-requires
are_right-requires c =
    let a = c.args.array in
    let w = c.args.work.now in
    let f = few a.base.now a.check.now a.is_array c.args.table.now w c.requires.0 c.requires.1 c.requires.2 in
    comparable a.base.now a.check.now a.is_array c.args.table.now w c.requires.0 c.requires.1 c.requires.2 c.is_listed.new.marks (c.is_listed.auto.marks ∙ lent_length (length w) row_limit f) c.is_listed.result c.is_listed.ensures.answer c.if-is_listed.true

pub returns-then-is_listed : goal.returns-then-is_listed
returns-then-is_listed c =
    let a = c.args.array in
    let w = c.args.work.now in
    let f = few a.base.now a.check.now a.is_array c.args.table.now w c.requires.0 c.requires.1 c.requires.2 in
    is_right_list a.base.now a.check.now a.is_array c.args.table.now w c.requires.0 c.requires.1 c.requires.2 c.is_listed.new.marks (c.is_listed.auto.marks ∙ lent_length (length w) row_limit f) c.is_listed.result c.is_listed.ensures.answer c.if-is_listed.true
    (c.is_listed.ensures.marks c.if-is_listed.true) c.are_right.result c.are_right.ensures

pub returns-else-is_listed : goal.returns-else-is_listed
returns-else-is_listed c =
    let a = c.args.array in
    let w = c.args.work.now in
    let f = few a.base.now a.check.now a.is_array c.args.table.now w c.requires.0 c.requires.1 c.requires.2 in
    no_list a.base.now a.check.now a.is_array c.args.table.now w c.requires.0 c.requires.1 c.requires.2 c.is_listed.new.marks (c.is_listed.auto.marks ∙ lent_length (length w) row_limit f) c.is_listed.result c.is_listed.ensures.answer c.if-is_listed.false
