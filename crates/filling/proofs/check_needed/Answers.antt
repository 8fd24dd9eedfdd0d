-- 5, 1 and 15 in their order.
use Rattle.std.proofs.Common.{refl, arith, true, ℕ, ◌*◌, ◌/◌, ◌<◌, ◌≤◌}
use Rattle.rows.specs.Table.{rows_of, order_of}
use Rattle.list.proofs.Check.{checked-size}
use Rattle.row_ends.specs.Steps.{FirstNeeding}
use Rattle.filling.proofs.Refusals.{fill-five, fill-many, fill-short, fill-none, needing-none}
use Rattle.filling.proofs.check_needed.Goals as goal
use Rattle.filling.proofs.check_needed.Goals.{then-not-counted+in_default, else-not-counted}

pub overflow_sub-last : goal.overflow_sub-last
unfolding rows_of
overflow_sub-last c = (checked-size true _ c.requires).0

pub length_of-requires : goal.length_of-requires
unfolding rows_of
length_of-requires c = let s = (checked-size true _ c.requires).0 in omega arith

pub count_rows-counted-requires : goal.count_rows-counted-requires
unfolding order_of rows_of
count_rows-counted-requires c = (c.requires, c.length_of.ensures.0)

pub overflow_add-result : goal.overflow_add-result
unfolding rows_of
overflow_add-result c = let s = (checked-size true _ c.requires).1 in let l = c.in-Some.ensures.0 in omega arith

pub overflow_cast-result : goal.overflow_cast-result
unfolding rows_of
overflow_cast-result c = let s = (checked-size true _ c.requires).1 in let l = c.in-Some.ensures.0 in omega arith

pub returns-in-Some : goal.returns-in-Some
returns-in-Some c = fill-five _ _ c.requires _ c.in-Some.ensures.1 c.in-Some.ensures.0

short : {n size : ℕ} → size / 8 < n → size < 8 * n
short l = omega arith

enough : {n size : ℕ} → n ≤ size / 8 → 8 * n ≤ size
enough l = omega arith

pub returns-then-counted-gt-ROW_LIMIT : goal.returns-then-counted-gt-ROW_LIMIT
returns-then-counted-gt-ROW_LIMIT c =
    let f : FirstNeeding c.args.table.now (rows_of c.args.table.now) =
    elim c.if-not-counted.branch [ then-not-counted+in_default w ↦ w.in_default.ensures | else-not-counted w ↦ needing-none _ _ c.count_rows-counted.ensures.none w.if-not-counted.false ]
    in
    rw c.into.ensures (fill-many _ _ c.requires _ f refl _ c.count_rows-counted.ensures.rows_are c.if-counted-gt-ROW_LIMIT.true)

pub returns-then-size-counted : goal.returns-then-size-counted
returns-then-size-counted c =
    let f : FirstNeeding c.args.table.now (rows_of c.args.table.now) =
    elim c.if-not-counted.branch [ then-not-counted+in_default w ↦ w.in_default.ensures | else-not-counted w ↦ needing-none _ _ c.count_rows-counted.ensures.none w.if-not-counted.false ]
    in
    rw c.into-then-size-counted.ensures
    (fill-short _ _ c.requires _ f refl _ c.count_rows-counted.ensures.rows_are c.if-counted-gt-ROW_LIMIT.false (short c.if-size-counted.true))

pub returns : goal.returns
returns c =
    let f : FirstNeeding c.args.table.now (rows_of c.args.table.now) =
    elim c.if-not-counted.branch [ then-not-counted+in_default w ↦ w.in_default.ensures | else-not-counted w ↦ needing-none _ _ c.count_rows-counted.ensures.none w.if-not-counted.false ]
    in
    (fill-none _ _ c.requires _ f refl _ c.count_rows-counted.ensures.rows_are c.if-counted-gt-ROW_LIMIT.false (enough c.if-size-counted.false), c.count_rows-counted.ensures.rows_are)
