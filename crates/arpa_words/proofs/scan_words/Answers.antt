-- The words from k on are left to search. Assumes nothing.
use mathlib.Core.Path.{sym, ◌∙◌}
use native.Mathlib.Omega.{arith}
use Rattle.arpa_words.proofs.Searches.{scan-start, scan-found, scan-next, scan-end}
use Rattle.arpa_words.proofs.scan_words.Goals as goal

pub loop-k-init : goal.loop-k-init
loop-k-init c = scan-start _ _ _

pub same_text-requires : goal.same_text-requires
same_text-requires c =
    let a = c.loop-k.auto.k in
    let room = c.requires.0 in
    (omega arith, c.requires.1 c.loop-k.k a c.loop-k-test.true)

pub returns-then-same_text : goal.returns-then-same_text
returns-then-same_text c =
    sym (c.loop-k.invariant ∙ scan-found c.args.store.now c.args.text.now c.args.words c.loop-k.k c.loop-k-test.true (sym c.same_text.ensures ∙ c.if-same_text.true))

pub loop-k-preserved : goal.loop-k-preserved
loop-k-preserved c =
    c.loop-k.invariant ∙ scan-next c.args.store.now c.args.text.now c.args.words c.loop-k.k c.loop-k-test.true (sym c.same_text.ensures ∙ c.if-same_text.false)

pub returns : goal.returns
returns c =
    sym (c.loop-k.invariant ∙ scan-end c.args.store.now c.args.text.now c.args.words c.loop-k.k c.loop-k-test.false)
