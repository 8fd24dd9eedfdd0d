use Rattle.sentences.proofs.Meaning.{listing_means}
use Rattle.sentences.proofs.list_sentences.Goals as goal

pub returns-clause-meaning : goal.returns-clause-meaning
returns-clause-meaning c = rw (c.into.ensures, c.list_counted.ensures.outcome) (listing_means c.args.base.now c.args.check.now c.args.k c.args.words.now c.args.totals.now)
