use mathlib.Core.Path.{◌≡◌}
use mathlib.Core.List.{List}
use Prim.Native.Nat.{ℕ, ◌+◌, ◌≤◌, ◌<◌}
use native.Mathlib.Numerals.{add-one}
use native.Mathlib.Omega.{arith}
use lib.IntN.{ℤ}
use Rattle.std.proofs.lemmas.Result.{err_from_is_err_and}
use Rattle.rows.specs.Table.{rows_of}
use Rattle.rows.proofs.Table.{row_in}
use Rattle.list.proofs.Check.{accepted-good}
use Rattle.extensions.proofs.Stretches.{children-first, children-next}
use Rattle.row_nodes.specs.Steps.{placed_nodes, Filled, Tried}
use Rattle.list_trie.proofs.NodeByNode.{over_room}
use Rattle.list_trie.proofs.place_rows.Goals as goal

pub loop-i-init : goal.loop-i-init
loop-i-init c =
    let o = c.rows_below-from.ensures in
    (λ l. children-first c.args.list.table.now c.args.list.accepted _ o.within o.fewer o.more, c.requires.table_value.1, c.requires.filled)

pub children_end-to-requires : goal.children_end-to-requires
children_end-to-requires c =
    let t = c.args.list.table.now in
    let h : c.loop-i.i < rows_of t = omega (arith, c.loop-i-test.true, c.requires.table_value.0.within) in
    (row_in t c.loop-i.i h, accepted-good t c.args.list.accepted, c.loop-i.invariant.0 h)

pub returns-in_err-top : goal.returns-in_err-top
returns-in_err-top c =
    let p = err_from_is_err_and c.from_residual.result c.from_residual.ensures.1 in
    let e = rw c.loop-i.auto.check at c.in_err-top.ensures in
    rw (p.1, p.2) (e.0, over_room c.args.list.table.now _ (c.loop-i.i + 2) e.1)

-- where a top is answered, it is that of the nodes placed
top_is : {t : List ℤ} {N n m r : ℕ} {B C : List ℤ} {W : List ℕ} → n ≡ m → r ≤ N → Tried t N (placed_nodes t n) r B C W → (r ≡ (placed_nodes t m).top) × Filled t N (placed_nodes t m) B C W
top_is e h T = rw (← e) (omega (arith, T.answer, (T.filled h).room), T.filled h)

pub loop-i-preserved : goal.loop-i-preserved
loop-i-preserved c =
    let t = c.args.list.table.now in
    let i = c.loop-i.i in
    let h : i < rows_of t = omega (arith, c.loop-i-test.true, c.requires.table_value.0.within) in
    let e = rw c.loop-i.auto.check at c.in_ok-top.ensures in
    let T = top_is {n = i + 2} {m = i + 1 + 1} (omega arith) e.0 e.1 in
    (λ l. rw (add-one i) (children-next t c.args.list.accepted _ _ _ (omega (arith, l)) (c.loop-i.invariant.0 h) c.children_end-to.ensures), T.0, T.1)
