use Rattle.std.proofs.Common.{◌∙◌}
use Rattle.fragment_scoring.proofs.Meaning.{scoring_means}
use Rattle.fragment_scoring.proofs.score_fragment.Goals as goal

pub returns-clause-meaning : goal.returns-clause-meaning
returns-clause-meaning c = rw (c.from.ensures ∙ c.scored_over.ensures) (scoring_means c.args.base.now c.args.check.now c.args.words.now)
