-- `decimal::all_digits`: the chain tests each character, as the definition does.
use Rattle.std.proofs.Common.{ℕ, leb, ◌&&◌, sym, ◌∙◌, rules, tests}
use Rattle.std.proofs.lemmas.Iterator.{YieldsList-from_slice}
use Rattle.std.proofs.lemmas.Iterator.Search.{all_from_yields_List}
use Rattle.decimal.proofs.Scans.{all_digits_list}
use Rattle.decimal.proofs.all_digits.Goals as goal

pub returns : goal.returns
returns c =
    all_from_yields_List (λ (d : ℕ). leb 48 d && leb d 57) _ _ _ c.all.ensures.ran (YieldsList-from_slice c.args.text.now cc) (λ x b q k. search (rules, tests))
    ∙ sym (all_digits_list c.args.text.now)
