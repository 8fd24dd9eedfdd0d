-- `totals_sentence::read_sentence`: the closing word stands behind the words.
use Rattle.std.proofs.Common.{replicate, sym, arith}
use Rattle.totals_sentence.proofs.Sentences.{words-few, closed}
use Rattle.totals_sentence.proofs.read_sentence.Goals as goal

pub bounds-words-count : goal.bounds-words-count
bounds-words-count c = omega (arith, (words-few c.args.line.now _ (sym c.in_ok-count.ensures.answer)).1)

pub returns-clause-words : goal.returns-clause-words
returns-clause-words c =
    let few = words-few c.args.line.now _ (sym c.in_ok-count.ensures.answer) in
    λ t. closed c.args.line.now (replicate 65 0) _ _ t few.0 (omega (arith, few.1)) c.in_ok-count.ensures.words
