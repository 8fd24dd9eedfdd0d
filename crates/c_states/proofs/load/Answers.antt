use Rattle.std.proofs.Common.{rules, w32, ◌∙◌}
use Rattle.std.proofs.lemmas.Int.{to_z-of_z}
use Rattle.carried_state.specs.Numbers.{numbers_of}
use Rattle.c_states.proofs.Items.{items-drop, equal_nine}
use Rattle.c_states.proofs.load.Goals as goal

pub returns : goal.returns
unfolding numbers_of
returns c =
    equal_nine
    (to_z-of_z w32 _ (search rules))
    (to_z-of_z w32 _ (search rules))
    (to_z-of_z w32 _ (search rules))
    (to_z-of_z w32 _ (search rules))
    (to_z-of_z w32 _ (search rules))
    (to_z-of_z w32 _ (search rules))
    (to_z-of_z w32 _ (search rules))
    (to_z-of_z w32 _ (search rules))
    (to_z-of_z w32 _ (search rules))
    ∙ items-drop 0 9 c.args.numbers.now c.requires
