-- One row more is written at each turn.
use Rattle.std.proofs.Common.{sym, ap, ◌∙◌, arith, ◌+◌}
use lib.ListN.{length-take, length-drop}
use Rattle.rows.proofs.Table.{row_in}
use Rattle.filled_list.specs.Filled.{filled_row}
use Rattle.filled_list.proofs.Next.{filling-ends, next-words}
use Rattle.row_ends.proofs.Ends.{best-end}
use Rattle.filling.proofs.Written.{writing_starts, writing_ends, writing_room, writing_on}
use Rattle.filling.proofs.write_rows.Goals as goal

pub loop-next-init : goal.loop-next-init
loop-next-init c =
    let p = c.requires in
    record { checked = p.0; place = 0; next = c.first_end-next.ensures; writing = writing_starts _ p.0 _ p.2 }

pub length_of-k-requires : goal.length_of-k-requires
length_of-k-requires c = let n = rw c.in-Some.is at c.loop-next.invariant.next in row_in _ _ (n.1.one n.0)

pub overflow_add-start : goal.overflow_add-start
overflow_add-start c =
    let v = c.loop-next.invariant in
    let n = rw c.in-Some.is at v.next in
    let found = next-words _ v.checked _ _ _ _ _ _ n.1 n.0 in
    let room = (writing_room _ v.checked _ _ _ _ v.writing n.1.filling.bracket.within found.0).1 in
    omega arith

pub offset_bounds-filled-start : goal.offset_bounds-filled-start
offset_bounds-filled-start c =
    let v = c.loop-next.invariant in
    let n = rw c.in-Some.is at v.next in
    let found = next-words _ v.checked _ _ _ _ _ _ n.1 n.0 in
    let room = (writing_room _ v.checked _ _ _ _ v.writing n.1.filling.bracket.within found.0).1 in
    omega arith

pub slice_bounds-write_row-end : goal.slice_bounds-write_row-end
slice_bounds-write_row-end c =
    let v = c.loop-next.invariant in
    let n = rw c.in-Some.is at v.next in
    let found = next-words _ v.checked _ _ _ _ _ _ n.1 n.0 in
    (writing_room _ v.checked _ _ _ _ v.writing n.1.filling.bracket.within found.0).0

pub write_row-requires : goal.write_row-requires
write_row-requires c =
    let v = c.loop-next.invariant in
    let n = rw c.in-Some.is at v.next in
    let found = next-words _ v.checked _ _ _ _ _ _ n.1 n.0 in
    let room = (writing_room _ v.checked _ _ _ _ v.writing n.1.filling.bracket.within found.0).0 in
    (best-end _ v.checked _ _ _ _ _ _ n.1.filling.some (n.1.best n.0) (n.1.one n.0) _ c.length_of-k.ensures.0, rw (length-take, length-drop) (omega arith))

pub end_after-next-requires : goal.end_after-next-requires
end_after-next-requires c = let v = c.loop-next.invariant in (v.checked, (v.place, rw c.in-Some.is at v.next))

pub loop-next-smaller : goal.loop-next-smaller
loop-next-smaller c =
    let v = c.loop-next.invariant in
    let n = rw c.in-Some.is at v.next in
    let found = (next-words _ v.checked _ _ _ _ _ _ n.1 n.0).0 in
    let at = v.writing.at in
    omega arith

pub loop-next-preserved : goal.loop-next-preserved
loop-next-preserved c =
    let v = c.loop-next.invariant in
    let n = rw c.in-Some.is at v.next in
    let found = next-words _ v.checked _ _ _ _ _ _ n.1 n.0 in
    record {
      checked = v.checked;
      place = v.place + 1;
      next = c.end_after-next.ensures _ n;
      writing =
          writing_on _ v.checked _ _ _ _ v.writing n.1.filling.bracket.within found.0 _
          (c.write_row.ensures ∙ ap (filled_row c.args.table.now) (sym found.1));
    }

pub returns : goal.returns
returns c =
    let v = c.loop-next.invariant in
    let n = rw c.in_default.is at v.next in
    writing_ends _ v.checked _ _ _ _ v.writing n.filling.bracket.within (filling-ends _ v.checked _ _ _ _ _ n.filling (omega arith))
