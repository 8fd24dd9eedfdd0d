use Rattle.std.proofs.Common.{rules, sym, ap, ◌∙◌, pos, [], ◌∷◌}
use Rattle.carried_state.specs.Numbers.{state_from}
use Rattle.carried_state.proofs.Carried.{Four, state_from-numbers}
use Rattle.fragments.specs.Fragment.{no_words}
use Rattle.fragments.specs.Outcome.{four_places}
use Rattle.fragments.proofs.FragmentDefault.default.Goals as goal

pub returns : goal.returns
unfolding no_words four_places
returns c =
    let four : Four c.default.result = record { words = search rules; backoffs = search rules } in
    let e = sym (state_from-numbers c.default.result four) ∙ ap state_from c.default.ensures in
    λ i. record { total = pos 0; count = 0; kept = 0; first = 0 ∷ 0 ∷ 0 ∷ 0 ∷ []; state = e i }
