use Rattle.std.specs.declared.result.Result.TheVariants.{Ok, Err}
use Rattle.std.proofs.Common.{rules, sym, ap, arith}
use mir.Syntax.{w64}
use mir.Val.{SFits}
use mir.Facts.{to_z-of_z}
use Rattle.backoff.specs.NineNumbers.{nine_zeros}
use Rattle.backoff.specs.State.{empty}
use Rattle.backoff.specs.Store.{run_over}
use Rattle.double_array.specs.DoubleArray.{order_in, store_in}
use Rattle.double_array.proofs.DoubleArray.{opened-order}
use Rattle.carried_state.specs.Numbers.{numbers_of}
use Rattle.carried_state.proofs.Carried.{zeros_ok}
use Rattle.run_answer.proofs.Refused.{err-is}
use Rattle.fragments.specs.Outcome.{crossed}
use Rattle.fragment_scoring.proofs.Summed.{summed-empty, summed-refused, summed-scored}
use Rattle.fragment_scoring.proofs.scored.Goals as goal

pub sum_words-requires-clause-state_value : goal.sum_words-requires-clause-state_value
sum_words-requires-clause-state_value c = rw c.default.ensures (zeros_ok (order_in c.args.array.check.now))

pub returns-in_err-ran : goal.returns-in_err-ran
returns-in_err-ran c =
    let e = summed-empty (store_in c.args.array.base.now c.args.array.check.now) c.args.words.now (numbers_of c.default.result) (Err c.in_err-ran.field-0.0) c.default.ensures c.in_err-ran.ensures in
    rw (err-is c.from_residual.result c.in_err-ran.field-0.0 c.from_residual.ensures.1) (ap crossed (sym (summed-refused (order_in c.args.array.check.now) c.args.words.now nine_zeros c.in_err-ran.field-0.0 (run_over (store_in c.args.array.base.now c.args.array.check.now) c.args.words.now empty 1) e)))

pub kept_fragment-requires-clause-le_order : goal.kept_fragment-requires-clause-le_order
kept_fragment-requires-clause-le_order c =
    let o = opened-order c.args.array.base.now c.args.array.check.now c.args.array.is_array in
    (omega (arith, o, c.args.array.order_is), omega (arith, o, c.args.array.order_is))

pub returns : goal.returns
returns c =
    let f : SFits w64 c.in_ok-ran.ran.total = search rules in
    let e = summed-empty (store_in c.args.array.base.now c.args.array.check.now) c.args.words.now (numbers_of c.default.result) (Ok c.in_ok-ran.ran) c.default.ensures c.in_ok-ran.ensures in
    rw (c.kept_fragment.ensures, to_z-of_z f, c.args.array.order_is) (ap crossed (sym (summed-scored (order_in c.args.array.check.now) c.args.words.now nine_zeros c.in_ok-ran.ran (run_over (store_in c.args.array.base.now c.args.array.check.now) c.args.words.now empty 1) e)))
