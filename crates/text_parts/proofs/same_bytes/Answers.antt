use Rattle.std.proofs.Common.{◌∙◌}
use Rattle.text_parts.proofs.Parts.{same_words-pointwise}
use Rattle.text_parts.proofs.same_bytes.Goals as goal

pub returns : goal.returns
returns c = c.eq.ensures ∙ same_words-pointwise c.args.a.now c.args.b.now
