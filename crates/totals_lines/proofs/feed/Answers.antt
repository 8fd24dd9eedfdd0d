-- `totals_lines::feed`, character by character.
use Rattle.std.proofs.Common.{sym, refl, ◌∙◌}
use borrow.Author.Tests.{not-true, not-false}
use Rattle.totals_lines.proofs.Feeding.{feeding_start, feeding_line, feeding_more, fed_end, fed_refused, fed_long}
use Rattle.totals_lines.proofs.feed.Goals as goal

pub loop-c-init : goal.loop-c-init
loop-c-init c = record { feeding = feeding_start _ _ c.args.progress c.args.line.now c.args.out.now c.requires.begun c.requires.out_len; onward = refl }

pub returns-then-not-printed-clause-text : goal.returns-then-not-printed-clause-text
returns-then-not-printed-clause-text c =
    let P = c.append_sentence-printed.ensures.text in
    fed_refused c.loop-c.invariant.feeding c.loop-c-test.true refl c.if-c-eq-LF.true P (sym P.accepted ∙ not-true _ c.if-not-printed.true)

pub loop-c-preserved-then-c-eq-LF : goal.loop-c-preserved-then-c-eq-LF
loop-c-preserved-then-c-eq-LF c =
    let P = c.append_sentence-printed.ensures.text in
    record {
      feeding = feeding_line c.loop-c.invariant.feeding c.loop-c-test.true c.if-c-eq-LF.true P (sym P.accepted ∙ not-false _ c.if-not-printed.false) c.append_sentence-printed.auto.out;
      onward = c.loop-c.invariant.onward;
    }

pub returns-then-after-eq-TEXT_LINE-clause-text : goal.returns-then-after-eq-TEXT_LINE-clause-text
returns-then-after-eq-TEXT_LINE-clause-text c =
    fed_long c.loop-c.invariant.feeding c.loop-c-test.true refl c.if-c-eq-LF.false c.if-after-eq-TEXT_LINE.true c.append_refusal.result c.append_refusal.new.out c.append_refusal.ensures.text

pub loop-c-preserved : goal.loop-c-preserved
loop-c-preserved c = record {
  feeding = feeding_more c.loop-c.invariant.feeding c.loop-c-test.true c.if-c-eq-LF.false c.if-after-eq-TEXT_LINE.false;
  onward = c.loop-c.invariant.onward;
}

pub returns-clause-text : goal.returns-clause-text
returns-clause-text c = fed_end c.loop-c.invariant.feeding c.loop-c-test.false c.loop-c.invariant.onward
