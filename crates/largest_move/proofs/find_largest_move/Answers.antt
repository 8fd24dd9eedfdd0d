use Rattle.std.proofs.Common.{rules, arith, ◌≡◌, ◌∙◌, ◌≤◌, sym, ap, refl, length, w64, FitsSigned, Option.Some}
use Rattle.std.proofs.lemmas.Int.{to_z-of_z}
use lib.Seq.{length-take-le}
use Rattle.double_array.specs.DoubleArray.{opened}
use Rattle.run_answer.proofs.Refused.{some-number}
use Rattle.group_pairs.specs.declared.Pair.{Pair}
use Rattle.largest_move.specs.Move.{move_of}
use Rattle.largest_move.proofs.Meaning.{named_none}
use Rattle.largest_move.proofs.Outcome.{refused-answers, found-answers, returned}
use Rattle.largest_move.proofs.Accepted.{sizes, sentences_are, totals_small, is-listing, found-largest, found_within}
use Rattle.largest_move.proofs.find_largest_move.Goals as goal

-- the pair itself
told : (p q : Pair) → Some p ≡ Some q → p ≡ q
told p q e = cc

pub returns-in-Err-clause-outcome : goal.returns-in-Err-clause-outcome
returns-in-Err-clause-outcome c = (refused-answers c.args.base.now c.args.check.now c.args.k c.args.words.now c.args.totals.now _ c.in-Err.ensures.outcome _ (some-number c.in-Err.reason) (rw c.from.ensures at c.unnamed.ensures)).0

pub returns-in-Err-clause-meaning : goal.returns-in-Err-clause-meaning
returns-in-Err-clause-meaning c = (refused-answers c.args.base.now c.args.check.now c.args.k c.args.words.now c.args.totals.now _ c.in-Err.ensures.outcome _ (some-number c.in-Err.reason) (rw c.from.ensures at c.unnamed.ensures)).1

pub returns-then-counted-lt2-clause-outcome : goal.returns-then-counted-lt2-clause-outcome
returns-then-counted-lt2-clause-outcome c = (found-answers c.args.base.now c.args.check.now c.args.k c.args.words.now c.args.totals.now _ c.in-Ok.ensures.outcome _ refl (c.unnamed-then-counted-lt2.ensures ∙ ap move_of (sym (named_none (opened c.args.base.now c.args.check.now) c.args.k (sizes c.args.base.now c.args.check.now c.args.k c.args.words.now c.args.totals.now _ c.in-Ok.ensures.outcome refl).some (omega (arith, c.in-Ok.ensures.usable, c.if-counted-lt2.true)))))).0

pub returns-then-counted-lt2-clause-meaning : goal.returns-then-counted-lt2-clause-meaning
returns-then-counted-lt2-clause-meaning c = (found-answers c.args.base.now c.args.check.now c.args.k c.args.words.now c.args.totals.now _ c.in-Ok.ensures.outcome _ refl (c.unnamed-then-counted-lt2.ensures ∙ ap move_of (sym (named_none (opened c.args.base.now c.args.check.now) c.args.k (sizes c.args.base.now c.args.check.now c.args.k c.args.words.now c.args.totals.now _ c.in-Ok.ensures.outcome refl).some (omega (arith, c.in-Ok.ensures.usable, c.if-counted-lt2.true)))))).1

pub slice_bounds-listed-end : goal.slice_bounds-listed-end
slice_bounds-listed-end c = (omega (arith, (sizes c.args.base.now c.args.check.now c.args.k c.args.words.now c.args.totals.now _ c.in-Ok.ensures.outcome refl).totals_fit, sentences_are c.args.base.now c.args.check.now c.args.k c.args.words.now c.args.totals.now _ c.in-Ok.ensures.outcome refl))

pub slice_bounds-listed-end-2 : goal.slice_bounds-listed-end-2
slice_bounds-listed-end-2 c = sym (length-take-le _ _ (omega (arith, (sizes c.args.base.now c.args.check.now c.args.k c.args.words.now c.args.totals.now _ c.in-Ok.ensures.outcome refl).totals_fit, sentences_are c.args.base.now c.args.check.now c.args.k c.args.words.now c.args.totals.now _ c.in-Ok.ensures.outcome refl)))

pub largest_pair-requires-clause-small : goal.largest_pair-requires-clause-small
largest_pair-requires-clause-small c =
    let long : c.in-Ok.counted.sentences ≤ length c.list_counted.new.totals = (omega (arith, (sizes c.args.base.now c.args.check.now c.args.k c.args.words.now c.args.totals.now _ c.in-Ok.ensures.outcome refl).totals_fit, sentences_are c.args.base.now c.args.check.now c.args.k c.args.words.now c.args.totals.now _ c.in-Ok.ensures.outcome refl)) in
    totals_small c.args.base.now c.args.check.now c.args.k c.args.words.now c.args.totals.now _ c.in-Ok.ensures.outcome refl long

pub largest_pair-requires-clause-listing : goal.largest_pair-requires-clause-listing
largest_pair-requires-clause-listing c =
    let long : c.in-Ok.counted.sentences ≤ length c.list_counted.new.totals = (omega (arith, (sizes c.args.base.now c.args.check.now c.args.k c.args.words.now c.args.totals.now _ c.in-Ok.ensures.outcome refl).totals_fit, sentences_are c.args.base.now c.args.check.now c.args.k c.args.words.now c.args.totals.now _ c.in-Ok.ensures.outcome refl)) in
    is-listing c.args.base.now c.args.check.now c.args.k c.args.words.now c.args.totals.now _ c.in-Ok.ensures.outcome refl long _ c.in-Ok.ensures.usable c.if-counted-lt2.false

pub overflow_cast-result : goal.overflow_cast-result
overflow_cast-result c =
    let long : c.in-Ok.counted.sentences ≤ length c.list_counted.new.totals = (omega (arith, (sizes c.args.base.now c.args.check.now c.args.k c.args.words.now c.args.totals.now _ c.in-Ok.ensures.outcome refl).totals_fit, sentences_are c.args.base.now c.args.check.now c.args.k c.args.words.now c.args.totals.now _ c.in-Ok.ensures.outcome refl)) in
    omega (arith, (found_within c.args.base.now c.args.check.now c.args.k c.args.words.now c.args.totals.now _ c.in-Ok.ensures.outcome refl long c.in-Some.pair _ c.in-Ok.ensures.usable (told c.in-Some.pair _ c.in-Some.ensures)).first)

pub overflow_cast-result-in-Some : goal.overflow_cast-result-in-Some
overflow_cast-result-in-Some c =
    let long : c.in-Ok.counted.sentences ≤ length c.list_counted.new.totals = (omega (arith, (sizes c.args.base.now c.args.check.now c.args.k c.args.words.now c.args.totals.now _ c.in-Ok.ensures.outcome refl).totals_fit, sentences_are c.args.base.now c.args.check.now c.args.k c.args.words.now c.args.totals.now _ c.in-Ok.ensures.outcome refl)) in
    omega (arith, (found_within c.args.base.now c.args.check.now c.args.k c.args.words.now c.args.totals.now _ c.in-Ok.ensures.outcome refl long c.in-Some.pair _ c.in-Ok.ensures.usable (told c.in-Some.pair _ c.in-Some.ensures)).second)

pub returns-in-Some-clause-outcome : goal.returns-in-Some-clause-outcome
returns-in-Some-clause-outcome c =
    let long : c.in-Ok.counted.sentences ≤ length c.list_counted.new.totals = (omega (arith, (sizes c.args.base.now c.args.check.now c.args.k c.args.words.now c.args.totals.now _ c.in-Ok.ensures.outcome refl).totals_fit, sentences_are c.args.base.now c.args.check.now c.args.k c.args.words.now c.args.totals.now _ c.in-Ok.ensures.outcome refl)) in
    let f : FitsSigned w64 c.in-Some.pair.distance = search rules in
    (found-answers c.args.base.now c.args.check.now c.args.k c.args.words.now c.args.totals.now _ c.in-Ok.ensures.outcome _ refl (returned c.in-Some.pair _ (found-largest c.args.base.now c.args.check.now c.args.k c.args.words.now c.args.totals.now _ c.in-Ok.ensures.outcome refl long c.in-Some.pair _ c.in-Ok.ensures.usable (told c.in-Some.pair _ c.in-Some.ensures)) _ (to_z-of_z w64 _ f))).0

pub returns-in-Some-clause-meaning : goal.returns-in-Some-clause-meaning
returns-in-Some-clause-meaning c =
    let long : c.in-Ok.counted.sentences ≤ length c.list_counted.new.totals = (omega (arith, (sizes c.args.base.now c.args.check.now c.args.k c.args.words.now c.args.totals.now _ c.in-Ok.ensures.outcome refl).totals_fit, sentences_are c.args.base.now c.args.check.now c.args.k c.args.words.now c.args.totals.now _ c.in-Ok.ensures.outcome refl)) in
    let f : FitsSigned w64 c.in-Some.pair.distance = search rules in
    (found-answers c.args.base.now c.args.check.now c.args.k c.args.words.now c.args.totals.now _ c.in-Ok.ensures.outcome _ refl (returned c.in-Some.pair _ (found-largest c.args.base.now c.args.check.now c.args.k c.args.words.now c.args.totals.now _ c.in-Ok.ensures.outcome refl long c.in-Some.pair _ c.in-Ok.ensures.usable (told c.in-Some.pair _ c.in-Some.ensures)) _ (to_z-of_z w64 _ f))).1
