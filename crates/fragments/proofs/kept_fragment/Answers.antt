use Rattle.std.proofs.Common.{rules, sym, ◌∙◌, length, ◌-◌}
use lib.ListN.{length-take}
use mir.Facts.{to_z-of_z}
use Rattle.carried_state.proofs.Carried.{Four, state_from-numbers}
use Rattle.fragments.proofs.kept_fragment.Goals as goal

pub returns : goal.returns
returns c =
    let four : Four c.args.end = record { words = search rules; backoffs = search rules } in
    λ i. record {
      total = to_z-of_z c.ranges.total i;
      count = length c.args.words.now;
      kept = (c.kept_of.ensures ∙ sym (length-take (c.args.order - 1) c.args.words.now)) i;
      first = c.first_words.ensures i;
      state = sym (state_from-numbers c.args.end four) i;
    }
