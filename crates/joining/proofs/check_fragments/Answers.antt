use Rattle.std.proofs.Common.{sym, ◌∙◌, refl}
use Rattle.joining.proofs.check_fragments.Goals as goal

pub returns-then-not-fragment_ok : goal.returns-then-not-fragment_ok
returns-then-not-fragment_ok c = rw (sym c.fragment_ok.ensures ∙ c.if-not-fragment_ok.true) refl

pub returns-then-not-fragment_ok-2 : goal.returns-then-not-fragment_ok-2
returns-then-not-fragment_ok-2 c = rw (sym c.fragment_ok.ensures ∙ c.if-not-fragment_ok.false, sym c.fragment_ok-2.ensures ∙ c.if-not-fragment_ok-2.true) refl

pub returns : goal.returns
returns c = rw (sym c.fragment_ok.ensures ∙ c.if-not-fragment_ok.false, sym c.fragment_ok-2.ensures ∙ c.if-not-fragment_ok-2.false) refl
