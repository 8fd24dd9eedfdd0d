use Rattle.std.proofs.Common.{rules, w32, ◌≡◌, length, FitsSigned}
use Rattle.std.proofs.lemmas.Int.{to_z-of_z}
use Rattle.carried_state.specs.Numbers.{numbers_of}
use Rattle.c_states.proofs.Items.{stored}
use Rattle.c_states.proofs.store.Goals as goal

pub returns : goal.returns
unfolding numbers_of
returns c =
    let four : length c.args.state.words ≡ 4 = search rules in
    let fits : FitsSigned w32 c.args.state.count = search rules in
    rw (to_z-of_z w32 _ fits, c.copy_from_slice.ensures.after, c.copy_from_slice-2.ensures.after)
    (stored c.args.numbers.now c.args.state.words c.args.state.backoffs c.args.state.count c.requires four)
