-- `totals_lines::append`: the text is copied.
use Rattle.std.proofs.Common.{length, refl, arith}
use Rattle.std.proofs.lemmas.Slice.{put_mid-paste}
use Rattle.totals_lines.proofs.append.Goals as goal

pub returns-clause-text : goal.returns-clause-text
returns-clause-text c =
    let text = c.args.text.now in
    put_mid-paste c.args.at _ c.args.out.now _ text (length text) c.copy_from_slice.ensures.after (omega arith) refl
