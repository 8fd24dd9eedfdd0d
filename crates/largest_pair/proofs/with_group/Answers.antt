use Rattle.std.proofs.Common.{rules, w64, FitsSigned, ◌∙◌, sym}
use Rattle.std.proofs.lemmas.Int.{to_z-of_z}
use Rattle.integer.proofs.Arithmetic.{same_bits}
use Rattle.largest_pair.proofs.Seen.{nearer_seen, later_seen, group_seen, first-seen}
use Rattle.largest_pair.proofs.with_group.Goals as goal

pub returns-in_default : goal.returns-in_default
returns-in_default c = first-seen _ _ _ _ c.requires.group_of c.pair.result (rw c.in_default.is at c.requires.kept_so_far) c.pair.ensures

pub returns-then-range-pair : goal.returns-then-range-pair
returns-then-range-pair c =
    let f : FitsSigned w64 c.range-range.result.distance = search rules in
    let g : FitsSigned w64 c.in-Some.pair.distance = search rules in
    nearer_seen _ _ _ _ c.requires.group_of _ _ c.range-range.ensures.spans _
    (rw c.in-Some.is at c.requires.kept_so_far)
    (rw (to_z-of_z w64 _ f, to_z-of_z w64 _ g, c.range-range.ensures.distance) at c.if-range-pair.true)

pub returns-then-pair-first : goal.returns-then-pair-first
returns-then-pair-first c =
    let f : FitsSigned w64 c.range-range.result.distance = search rules in
    let g : FitsSigned w64 c.in-Some.pair.distance = search rules in
    later_seen _ _ _ _ c.requires.group_of _ _ c.range-range.ensures.spans _
    (rw c.in-Some.is at c.requires.kept_so_far)
    (sym c.range-range.ensures.distance ∙ same_bits f g c.if-range-pair-2.true)
    c.if-pair-first.true

pub returns : goal.returns
returns c = rw c.keep.ensures (group_seen _ _ _ _ c.requires.group_of _ _ (rw c.in-Some.is at c.requires.kept_so_far) c.pair-2.ensures)
