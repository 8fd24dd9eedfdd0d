use Rattle.std.proofs.Common.{rules, ◌∙◌}
use Rattle.carried_state.proofs.Carried.{Four}
use Rattle.joining.proofs.Meaning.{join_means}
use Rattle.joining.proofs.join_fragments.Goals as goal

pub returns-clause-meaning : goal.returns-clause-meaning
returns-clause-meaning c =
    let four : Four c.args.two.state = record { words = search rules; backoffs = search rules } in
    rw (c.from.ensures ∙ c.joined_over.ensures) (join_means c.args.base.now c.args.check.now c.args.one c.args.two four)
