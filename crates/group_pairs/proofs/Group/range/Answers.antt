use Rattle.std.proofs.Common.{rules, ◌≡◌, ◌+◌, ◌*◌, arith, w64, pos, FitsSigned, slice_index_or}
use Rattle.std.proofs.lemmas.Int.{to_z-of_z}
use Rattle.group_pairs.proofs.Groups.{spans-more, span_fits}
use Rattle.group_pairs.proofs.Group.range.Goals as goal

pub loop-s-preserved : goal.loop-s-preserved
loop-s-preserved c =
    let f : FitsSigned w64 (slice_index_or c.args.self.totals.now (c.args.self.first + c.loop-s.s * c.args.self.weight) (pos 0)) = search rules in
    let l : FitsSigned w64 c.min-low.result = search rules in
    let h : FitsSigned w64 c.max-high.result = search rules in
    rw (to_z-of_z w64 _ l, to_z-of_z w64 _ h)
    (spans-more _ _ _ _ _ _ c.loop-s.invariant _ _ _ (to_z-of_z w64 _ f) c.min-low.ensures.value c.max-high.ensures.value)

pub returns : goal.returns
returns c =
    let e : c.loop-s.s ≡ c.args.self.count = omega (arith, c.args.self.is_group.two, c.loop-s-test.false) in
    let spans = rw e at c.loop-s.invariant in
    record { spans = spans; distance = to_z-of_z w64 _ (span_fits _ _ _ _ c.args.self.is_group _ _ spans c.requires) }
