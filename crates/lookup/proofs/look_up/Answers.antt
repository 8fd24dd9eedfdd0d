-- Each return is a case of `lookup_outcome`, whose answers mean what `LookupMeans` says.
use mathlib.Core.Path.{◌≡◌, sym, ap, ◌∙◌, subst}
use mathlib.Core.List.{List, [], ◌∷◌, ◌++◌, reverse, reverse-append}
use mathlib.Core.Bool.{true}
use Prim.Native.Nat.{ℕ}
use native.Mathlib.Omega.{arith}
use lib.IntN.{ℤ}
use Rattle.backoff.specs.Refusal.{reason_number}
use Rattle.backoff.specs.declared.Reason.{Reason}
use Rattle.backoff.specs.declared.Reason.TheVariants.{WordCount}
use Rattle.backoff.specs.declared.Refusal.{Refusal}
use Rattle.double_array.specs.DoubleArray.{is_array, order_in}
use Rattle.lookup.specs.Lookup.{Lookup, Refused, lookup_outcome}
use Rattle.lookup.proofs.LookupMeaning.{AnswerMeans, lookup_means, lookup_no_array, lookup_nothing, lookup_above_five, lookup_above_order, lookup_walks}
use Rattle.lookup.proofs.Walking.{refused_told}
use Rattle.lookup.proofs.look_up.Goals as goal

-- an answer that is the outcome means what it says
means : (base check : List ℤ) (words : List ℕ) (r : Lookup) → r ≡ lookup_outcome base check words → AnswerMeans base check words r
means base check words r e = subst (AnswerMeans base check words) (sym e) (lookup_means base check words)

-- the slices of the array that was opened are the ones that were lent
lent : (base check b k : List ℤ) → (b ≡ base) × (k ≡ check) → is_array b k ≡ true → is_array base check ≡ true
lent base check b k e h = rw (← e.0, ← e.1) h

-- the number and place of a refusal for this reason
refused : (r : Refusal ℕ) (reason : Reason) → r ≡ record { reason = reason; place = 0 } → Refused (reason_number r.reason) r.place ≡ Refused (reason_number reason) 0
refused r reason e = ap (λ (z : Refusal ℕ). Refused (reason_number z.reason) z.place) e

pub returns-in_err-array-clause-outcome : goal.returns-in_err-array-clause-outcome
returns-in_err-array-clause-outcome c =
    refused_told c.from_residual.result c.in_err-array.field-0.0 c.from_residual.ensures
    ∙ ap (λ (r : Reason). Refused (reason_number r) 0) c.in_err-array.ensures.0
    ∙ sym (lookup_no_array c.args.base.now c.args.check.now c.args.words.now c.in_err-array.ensures.1)

pub returns-in_default-clause-outcome : goal.returns-in_default-clause-outcome
returns-in_default-clause-outcome c =
    let a = c.in_ok-array.array in
    let array = lent c.args.base.now c.args.check.now a.base.now a.check.now c.in_ok-array.ensures a.is_array in
    refused c.into.result WordCount c.into.ensures
    ∙ sym (lookup_nothing c.args.base.now c.args.check.now c.args.words.now array (omega (arith, c.in_default.ensures.cases)))

pub returns-then-words-clause-outcome : goal.returns-then-words-clause-outcome
returns-then-words-clause-outcome c =
    let a = c.in_ok-array.array in
    let array = lent c.args.base.now c.args.check.now a.base.now a.check.now c.in_ok-array.ensures a.is_array in
    refused c.into-then-words.result WordCount c.into-then-words.ensures
    ∙ sym (lookup_above_five c.args.base.now c.args.check.now c.args.words.now array c.if-words.true)

pub returns-then-array-words-clause-outcome : goal.returns-then-array-words-clause-outcome
returns-then-array-words-clause-outcome c =
    let a = c.in_ok-array.array in
    let array = lent c.args.base.now c.args.check.now a.base.now a.check.now c.in_ok-array.ensures a.is_array in
    let order : a.order ≡ order_in c.args.check.now = a.order_is ∙ ap order_in c.in_ok-array.ensures.1 in
    let some = c.in-Some.ensures.cases.1 in
    sym (lookup_above_order c.args.base.now c.args.check.now c.args.words.now array (omega arith) (omega arith) (omega arith))

pub returns-clause-outcome : goal.returns-clause-outcome
returns-clause-outcome c =
    let a = c.in_ok-array.array in
    let array = lent c.args.base.now c.args.check.now a.base.now a.check.now c.in_ok-array.ensures a.is_array in
    let order : a.order ≡ order_in c.args.check.now = a.order_is ∙ ap order_in c.in_ok-array.ensures.1 in
    let some = c.in-Some.ensures.cases.1 in
    let words = c.in-Some.older.now ++ c.in-Some.newest.now ∷ [] in
    let turned : reverse c.args.words.now ≡ c.in-Some.newest.now ∷ reverse c.in-Some.older.now = ap reverse c.in-Some.ensures.cases.0 ∙ reverse-append c.in-Some.older.now (c.in-Some.newest.now ∷ []) in
    c.walk.ensures
    ∙ rw (c.in_ok-array.ensures.0, c.in_ok-array.ensures.1, ← turned) (sym (lookup_walks c.args.base.now c.args.check.now c.args.words.now array (omega arith) (omega arith)))

pub returns-clause-meaning : goal.returns-clause-meaning
returns-clause-meaning c = means c.args.base.now c.args.check.now c.args.words.now _ (returns-clause-outcome c)
