use Rattle.std.specs.declared.option.Option.{Option}
use Rattle.std.specs.declared.option.Option.TheVariants.{Some, None}
use Rattle.std.specs.declared.result.Result.{Result}
use Rattle.std.specs.declared.result.Result.TheVariants.{Ok, Err}
use Rattle.std.specs.Result.{result_ok}
use Rattle.std.proofs.Common.{rules, ◌≡◌, ℕ, refl, sym, ap, arith}
use mir.Syntax.{w64}
use mir.Val.{SFits}
use mir.Facts.{to_z-of_z}
use Rattle.backoff.specs.State.{empty}
use Rattle.backoff.specs.NineNumbers.{nine_zeros, state_in}
use Rattle.backoff.specs.Store.{run_over}
use Rattle.double_array.specs.DoubleArray.{order_in, store_in}
use Rattle.carried_state.specs.Numbers.{numbers_of}
use Rattle.carried_state.proofs.Carried.{zeros_ok}
use Rattle.fragment_scoring.proofs.Summed.{summed-empty}
use Rattle.joining.proofs.Rescoring.{rescored_as, first_refused, second_refused}
use Rattle.joining.proofs.rescore.Goals as goal

-- a result whose `ok` is known
none-err : {A E : Type 0} (r : Result A E) → ◌≡◌ {A = Option A} None (result_ok r) → (x : E) × (r ≡ Err x)
none-err (Ok a) q = let z : ◌≡◌ {A = ℕ} 0 1 = cc in absurd (omega arith)
none-err (Err x) q = (x, refl)

some-ok : {A E : Type 0} (r : Result A E) (a : A) → ◌≡◌ {A = Option A} (Some a) (result_ok r) → r ≡ Ok a
some-ok (Ok b) a q = let e : a ≡ b = cc in ap Ok (sym e)
some-ok (Err x) a q = let z : ◌≡◌ {A = ℕ} 0 1 = cc in absurd (omega arith)

pub sum_words-requires-clause-state_value : goal.sum_words-requires-clause-state_value
sum_words-requires-clause-state_value c = rw c.default.ensures (zeros_ok (order_in c.args.array.check.now))

pub returns-in_err-alone : goal.returns-in_err-alone
returns-in_err-alone c =
    let S = store_in c.args.array.base.now c.args.array.check.now in
    let ws = c.args.words.now in
    let l = numbers_of c.args.state in
    let first = run_over S ws empty 1 in
    let second = run_over S ws (state_in l) 1 in
    let e = summed-empty S ws (numbers_of c.default.result) c.sum_words.result c.default.ensures c.sum_words.ensures in
    let (x, q) = none-err c.sum_words.result c.in_err-alone.ensures.value in
    rw c.from_residual.ensures (first_refused nine_zeros l x first second (rw q at e))

pub returns-in_err-after : goal.returns-in_err-after
returns-in_err-after c =
    let S = store_in c.args.array.base.now c.args.array.check.now in
    let ws = c.args.words.now in
    let l = numbers_of c.args.state in
    let first = run_over S ws empty 1 in
    let second = run_over S ws (state_in l) 1 in
    let e = summed-empty S ws (numbers_of c.default.result) c.sum_words.result c.default.ensures c.sum_words.ensures in
    let (x, q) = none-err c.sum_words-2.result c.in_err-after.ensures.value in
    rw c.from_residual-in_err-after.ensures (second_refused nine_zeros l x first second (rw q at c.sum_words-2.ensures))

pub returns : goal.returns
returns c =
    let S = store_in c.args.array.base.now c.args.array.check.now in
    let ws = c.args.words.now in
    let l = numbers_of c.args.state in
    let first = run_over S ws empty 1 in
    let second = run_over S ws (state_in l) 1 in
    let e = summed-empty S ws (numbers_of c.default.result) c.sum_words.result c.default.ensures c.sum_words.ensures in
    let f : SFits w64 c.in_ok-alone.alone.total = search rules in
    let g : SFits w64 c.in_ok-after.after.total = search rules in
    let q = some-ok c.sum_words.result c.in_ok-alone.alone c.in_ok-alone.ensures.value in
    let r = some-ok c.sum_words-2.result c.in_ok-after.after c.in_ok-after.ensures.value in
    rw (to_z-of_z f, to_z-of_z g) (rescored_as nine_zeros l c.in_ok-alone.alone c.in_ok-after.after first second (rw q at e) (rw r at c.sum_words-2.ensures))
