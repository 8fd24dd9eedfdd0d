-- The loop's steps are the rule's.
use Rattle.std.proofs.Common.{◌≡◌, ◌∙◌, arith, ◌-◌, ℕ, List, ℤ, ◌+ℤ◌}
use mir.Syntax.{w32, w64}
use mir.Val.{SFits, to_z}
use mir.Facts.{to_z-of_z}
use borrow.Author.Rules.{sfits_of}
use Rattle.backoff.specs.Model.{reach}
use Rattle.rows.specs.Table.{order_of}
use Rattle.list.specs.ListModel.{model_of}
use Rattle.list.proofs.ListModel.{accepted-model}
use Rattle.plain_word.proofs.TextRule.{text-fits}
use Rattle.plain.proofs.Run.{scoring_none, scoring_more, total-added, scored-all}
use Rattle.plain.proofs.score_words.Goals as goal

most-is : (t : List ℤ) {n : ℕ} → n ≡ order_of t → n - 1 ≡ reach (model_of t)
unfolding reach model_of
most-is t e = rw e

pub overflow_sub-most : goal.overflow_sub-most
unfolding model_of
overflow_sub-most c = omega (arith, c.requires.1, (accepted-model _ c.requires.0).order-low)

pub loop-i-init : goal.loop-i-init
loop-i-init c = rw (c.begin-recent.ensures, most-is c.args.table.now c.requires.1) (scoring_none (accepted-model _ c.requires.0) _ _ _ _)

pub loop-i-preserved : goal.loop-i-preserved
loop-i-preserved c =
    let A = accepted-model c.args.table.now c.requires.0 in
    let k = rw (most-is c.args.table.now c.requires.1) at c.score_next-next.ensures in
    let points : SFits w32 c.score_next-next.result.points = rw k.points_are (text-fits A _ _) in
    let wide : SFits w64 c.from-total.result = sfits_of c.from-total.type_inv in
    let same : c.from-total.result ≡ c.score_next-next.result.points = c.from-total.ensures ∙ to_z-of_z points in
    let sum : SFits w64 (to_z w64 c.loop-i.total-bits +ℤ c.score_next-next.result.points) = total-added c.loop-i.invariant A c.loop-i-test.true k points c.requires.2 in
    rw (to_z-of_z points, to_z-of_z wide, same, to_z-of_z sum)
    (scoring_more c.loop-i.invariant A c.loop-i-test.true k points c.requires.3 c.requires.4)

pub returns : goal.returns
returns c = let a = scored-all c.loop-i.invariant (omega arith) in record { total = a.0; points = a.1.0; lengths = a.1.1 }
