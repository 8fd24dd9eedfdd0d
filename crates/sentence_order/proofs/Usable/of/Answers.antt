use Rattle.std.proofs.Common.{arith, ◌≡◌, ◌+◌, ◌-◌, ◌<◌, refl, sym, ◌∙◌}
use Rattle.backoff.specs.Limits.{word_limit}
use Rattle.double_array.proofs.DoubleArray.{opened-head}
use Rattle.sentence_order.specs.Sentences.{passing}
use Rattle.sentence_order.specs.Inner.{usable_child}
use Rattle.sentence_order.proofs.UsableWords.{all-looked_for, holding_skip, holding_more, holding_full}
use Rattle.sentence_order.proofs.Usable.of.Goals as goal
use Rattle.sentence_order.proofs.Usable.of.Goals.{then-is_usable+else-count-eq-USABLE_LIMIT, else-is_usable}

pub loop-w-init : goal.loop-w-init
loop-w-init c = record { within = omega arith; few = omega arith; long = refl; are = unfold passing in refl }

pub is_usable-requires : goal.is_usable-requires
is_usable-requires c = (opened-head c.args.array.base.now c.args.array.check.now c.args.array.is_array).root-check

pub returns-then-count-eq-USABLE_LIMIT : goal.returns-then-count-eq-USABLE_LIMIT
returns-then-count-eq-USABLE_LIMIT c =
    let e : c.loop-w.w - 1 + 1 ≡ c.loop-w.w = omega (arith, c.loop-w.auto.w) in
    holding_full (usable_child c.args.array.check.now) _ _ (c.loop-w.w - 1) c.loop-w.invariant (omega (arith, c.loop-w.auto.w, c.loop-w-test.true, c.last_word-w-end.ensures))
    (rw e (sym c.if-is_usable.ensures)) c.if-count-eq-USABLE_LIMIT.true

pub loop-w-preserved : goal.loop-w-preserved
loop-w-preserved c =
    let e : c.loop-w.w - 1 + 1 ≡ c.loop-w.w = omega (arith, c.loop-w.auto.w) in
    let f : c.loop-w.w + 1 - 1 ≡ c.loop-w.w = omega arith in
    let more : c.loop-w.w - 1 < word_limit = omega (arith, c.loop-w.auto.w, c.loop-w-test.true, c.last_word-w-end.ensures) in
    elim c.if-is_usable.branch [
      | then-is_usable+else-count-eq-USABLE_LIMIT w ↦
          rw (w.words-is, w.count-is, f)
          (rw e at (holding_more (usable_child c.args.array.check.now) _ _ (c.loop-w.w - 1) c.loop-w.invariant more (rw e (sym c.is_usable.ensures ∙ w.if-is_usable.true)) w.if-count-eq-USABLE_LIMIT.false))
      | else-is_usable w ↦
          rw (w.words-is, w.count-is, f)
          (rw e at (holding_skip (usable_child c.args.array.check.now) _ _ (c.loop-w.w - 1) c.loop-w.invariant more (rw e (sym c.is_usable.ensures ∙ w.if-is_usable.false))))
    ]

pub returns : goal.returns
returns c =
    let last : c.loop-w.w - 1 ≡ c.last_word-w-end.result = omega (arith, c.loop-w.auto.w-end, c.loop-w-test.false) in
    all-looked_for c.args.array.check.now (c.loop-w.w - 1) c.loop-w.invariant.within (omega (arith, c.last_word-w-end.ensures)) ∙ c.loop-w.invariant.are
