use Rattle.std.proofs.Common.{rules, ◌∙◌, sym, length, w64, FitsSigned, [], take}
use Rattle.std.proofs.lemmas.Int.{to_z-of_z}
use Rattle.batch.proofs.Inner.{counted-bytes}
use Rattle.batch.proofs.full_sheet.Goals as goal

pub returns : goal.returns
returns c =
    let f : FitsSigned w64 c.args.scored.total = search rules in
    λ closing t.
    rw (sym c.last_end-last.ensures)
    (c.counted_sheet.ensures
    ∙ rw (to_z-of_z w64 _ f) (counted-bytes closing (take c.last_end-last.result c.args.lengths.now) _ (c.count_words.ensures closing [] t) (length c.args.ends.now) c.last_end-last.result c.args.scored.total))
