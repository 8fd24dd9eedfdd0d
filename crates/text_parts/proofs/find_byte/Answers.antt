-- `text_parts::find_byte`: what the chain finds.
use Rattle.std.proofs.Common.{ℕ, eqb, rules, tests}
use Rattle.std.proofs.lemmas.Iterator.{YieldsList-from_slice}
use Rattle.std.proofs.lemmas.Iterator.Search.{position_from_yields_List}
use Rattle.text_parts.proofs.Parts.{found}
use Rattle.text_parts.proofs.find_byte.Goals as goal

pub returns : goal.returns
returns c =
    found c.args.byte c.args.text.now c.position.result
    (position_from_yields_List (λ (x : ℕ). eqb x c.args.byte) _ _ c.position.result c.position.ensures.ran (YieldsList-from_slice c.args.text.now cc) (λ x b q k. search (rules, tests)))
