-- The arrays that an accepted build left are ready for TEXT, from start's state.
use Rattle.std.proofs.Common.{◌≡◌, ℕ, Result, Ok, Err, sym, ap, subst}
use Rattle.std.specs.Result.{ResultUnwrapsOrElse}
use Rattle.backoff.specs.declared.Refusal.{Refusal}
use Rattle.backoff.specs.NineNumbers.{nine_zeros}
use Rattle.carried_state.specs.declared.State.{State}
use Rattle.carried_state.specs.Numbers.{numbers_of}
use Rattle.score.specs.Answers.{state_of}
use Rattle.totals_sentence.specs.Steps.{Ready}
use Rattle.totals.proofs.BuiltArrays.{ready}
use Rattle.totals.proofs.print_totals.Goals as goal

-- the state that is used is the one that start tells
told : (r : Result State (Refusal ℕ)) (s : State) → ResultUnwrapsOrElse r (λ (d : State). numbers_of d ≡ nine_zeros) s → numbers_of s ≡ state_of r
told (Ok t) s h = ap numbers_of h
told (Err refusal) s h = h

pub print_file-requires : goal.print_file-requires
print_file-requires g c =
    subst (Ready c.args.base.now c.args.check.now) (sym (told c.start.result c.unwrap_or_default-start.result c.unwrap_or_default-start.ensures)) (ready _ _ c.requires c.start.ensures.outcome)
