-- What the verdict means.
use Rattle.std.proofs.Common.{◌≡◌, ap, ◌∙◌, Result, Ok, Err, ℕ, refl}
use Rattle.backoff.specs.declared.Refusal.{Refusal}
use Rattle.backoff.specs.Refusal.{verdict_of, number_in, place_in, number_of, place_of}
use Rattle.list.proofs.Meaning.{check_means}
use Rattle.list.proofs.check_list.Goals as goal

same_number : (r : Result Unit (Refusal ℕ)) → number_in r ≡ number_of (verdict_of r)
same_number (Ok u) = refl
same_number (Err refusal) = refl

same_place : (r : Result Unit (Refusal ℕ)) → place_in r ≡ place_of (verdict_of r)
same_place (Ok u) = refl
same_place (Err refusal) = refl

pub returns-clause-meaning : goal.returns-clause-meaning
returns-clause-meaning c =
    let r = c.check_for.result in
    let e = c.check_for.ensures in
    check_means _ _ _ (same_number r ∙ ap number_of e) (same_place r ∙ ap place_of e)
