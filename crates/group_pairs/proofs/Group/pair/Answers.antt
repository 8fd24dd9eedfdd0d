use Rattle.std.proofs.Common.{rules, arith, ◌≡◌, w64, FitsSigned, ◌-ℤ◌, to_z, of_z, ◌∙◌, add-one}
use Rattle.std.proofs.lemmas.Int.{to_z-of_z}
use Rattle.group_pairs.specs.Groups.{FirstWith}
use Rattle.group_pairs.proofs.Groups.{second, apart-pair, level-pair, one-place-one-total}
use Rattle.group_pairs.proofs.Group.pair.Goals as goal
use Rattle.group_pairs.proofs.Group.pair.Goals.{then-low-high, else-low-high}

pub overflow_add-first : goal.overflow_add-first
overflow_add-first c = omega (arith, second _ _ _ _ c.args.self.is_group, c.ranges.self.0)

pub overflow_add-result-2 : goal.overflow_add-result-2
overflow_add-result-2 c =
    elim c.if-low-high.branch [
      | then-low-high w ↦ rw w.first-is (omega (arith, second _ _ _ _ c.args.self.is_group, c.ranges.self.0))
      | else-low-high w ↦ rw w.first-is (omega (arith, w.max.ensures, c.first_with-low.ensures.listed, c.first_with-high.ensures.listed, c.ranges.self.0))
    ]

pub returns : goal.returns
returns c =
    let h : FitsSigned w64 c.args.range.distance = search rules in
    let e : to_z w64 (of_z w64 c.args.range.distance) ≡ c.args.range.high -ℤ c.args.range.low = to_z-of_z w64 _ h ∙ c.requires.distance in
    let f : FitsSigned w64 c.args.range.low = search rules in
    let g : FitsSigned w64 c.args.range.high = search rules in
    let low : FirstWith c.args.self.totals.now c.args.self.first c.args.self.weight c.args.range.low c.first_with-low.result = rw (to_z-of_z w64 _ f) at c.first_with-low.ensures.first in
    let high : FirstWith c.args.self.totals.now c.args.self.first c.args.self.weight c.args.range.high c.first_with-high.result = rw (to_z-of_z w64 _ g) at c.first_with-high.ensures.first in
    elim c.if-low-high.branch [
      | then-low-high w ↦
          rw w.first-is
          (level-pair _ _ _ _ c.args.self.is_group _ _ c.requires.spans (one-place-one-total _ _ _ _ _ _ _ low high w.if-low-high.true) _ (rw (e, add-one, add-one)))
      | else-low-high w ↦ rw (w.first-is, w.min.ensures, w.max.ensures) (apart-pair _ _ _ _ c.args.self.is_group _ _ c.requires.spans _ _ low high w.if-low-high.false _ e)
    ]
