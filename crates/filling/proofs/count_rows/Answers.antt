-- One row more of the filled list at each turn.
use Rattle.std.proofs.Common.{refl, ◌∙◌, arith, true}
use Rattle.list.proofs.Check.{checked-good, checked-size}
use Rattle.filled_list.proofs.FilledRows.{filled-few}
use Rattle.filled_list.proofs.FilledTable.{filled-rows}
use Rattle.filled_list.proofs.Next.{filling-ends, next-words}
use Rattle.row_ends.proofs.Ends.{best-end, addable-more, none_needing}
use Rattle.filling.proofs.count_rows.Goals as goal

pub loop-next-init : goal.loop-next-init
loop-next-init c = record { checked = c.requires.0; next = c.first_end-next.ensures; in_range = λ e j l. absurd (omega arith) }

pub end_fits-fits-requires : goal.end_fits-fits-requires
end_fits-fits-requires c =
    let v = c.loop-next.invariant in
    let n = rw c.in-Some.is at v.next in
    best-end _ v.checked _ _ _ _ _ _ n.1.filling.some (n.1.best n.0) (n.1.one n.0) _ refl

pub overflow_add-rows : goal.overflow_add-rows
overflow_add-rows c =
    let v = c.loop-next.invariant in
    let n = rw c.in-Some.is at v.next in
    let g = checked-good true _ v.checked in
    let s = (checked-size true _ v.checked).1 in
    let found = (next-words _ v.checked _ _ _ _ _ _ n.1 n.0).0 in
    omega (arith, found, filled-rows _ g, filled-few _ g)

pub end_after-next-requires : goal.end_after-next-requires
end_after-next-requires c = let v = c.loop-next.invariant in (v.checked, (_, rw c.in-Some.is at v.next))

pub loop-next-smaller : goal.loop-next-smaller
loop-next-smaller c =
    let v = c.loop-next.invariant in
    let n = rw c.in-Some.is at v.next in
    let found = (next-words _ v.checked _ _ _ _ _ _ n.1 n.0).0 in
    omega arith

pub loop-next-preserved : goal.loop-next-preserved
loop-next-preserved c =
    let v = c.loop-next.invariant in
    let n = rw c.in-Some.is at v.next in
    record {
      checked = v.checked;
      next = c.end_after-next.ensures _ n;
      in_range = addable-more _ v.checked _ _ _ _ v.in_range c.end_fits-fits.ensures (next-words _ v.checked _ _ _ _ _ _ n.1 n.0).1;
    }

pub returns : goal.returns
returns c =
    let v = c.loop-next.invariant in
    let n = rw c.in_default.is at v.next in
    let e = filling-ends _ v.checked _ _ _ _ _ n.filling (omega arith) in
    record {
      rows_are = e ∙ filled-rows _ (checked-good true _ v.checked);
      none = λ z. none_needing _ v.checked (λ j l. v.in_range z j (omega arith));
    }
