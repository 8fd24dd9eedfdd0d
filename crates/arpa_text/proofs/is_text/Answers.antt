-- `arpa_text::is_text`: the range has the length exactly where the definition's bounds do, and the chain tests each byte.
use Rattle.std.proofs.Common.{◌≡◌, ℕ, leb, sym, ◌∙◌, arith, rules, tests}
use Rattle.std.proofs.lemmas.Bool.Decides.{nat_tests}
use Rattle.std.proofs.lemmas.Iterator.{YieldsList-from_slice}
use Rattle.std.proofs.lemmas.Iterator.Search.{all_from_yields_List}
use Rattle.arpa_text.specs.Lines.{all_above, is_text}
use Rattle.arpa_text.proofs.Lines.{all_above_list}
use Rattle.arpa_text.proofs.is_text.Goals as goal

pub returns-then-contains : goal.returns-then-contains
unfolding is_text
returns-then-contains c =
    let e : c.all.result ≡ all_above c.args.text.now =
    all_from_yields_List (λ (d : ℕ). leb 33 d) _ _ c.all.result c.all.ensures.ran (YieldsList-from_slice c.args.text.now cc) (λ x b q k. search (rules, tests))
    ∙ sym (all_above_list c.args.text.now) in
    grind (arith, nat_tests)

pub returns-else-contains : goal.returns-else-contains
unfolding is_text
returns-else-contains c = grind (arith, nat_tests)
