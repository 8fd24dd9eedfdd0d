use Rattle.std.specs.declared.result.Result.TheVariants.{Ok, Err}
use Rattle.std.proofs.Common.{rules, ◌≡◌, true, ◌≤◌, ◌-◌, List, length, take, drop, ℤ, sym, ◌∙◌, refl, arith}
use lib.ListN.{length-drop}
use lib.Seq.{length-take-le}
use mir.Syntax.{w64}
use mir.Val.{SFits}
use mir.Facts.{to_z-of_z}
use Rattle.backoff.specs.Limits.{order_limit}
use Rattle.backoff.specs.Run.{Run}
use Rattle.double_array.specs.DoubleArray.{is_array, order_in, store_in}
use Rattle.double_array.proofs.DoubleArray.{opened-order}
use Rattle.carried_state.specs.Numbers.{numbers_of}
use Rattle.carried_state.proofs.Carried.{Four, length-numbers}
use Rattle.word_walk.proofs.Rows.{rows-in_probability, rows-in_backoff, rows-in_words}
use Rattle.run_answer.specs.Answers.{answer_of}
use Rattle.run_answer.proofs.Refused.{some-number}
use Rattle.sums.proofs.Pieces.{pieced_begins, pieced_ends, piece_told, piece-fits}
use Rattle.sums.proofs.sum_words.Goals as goal

order-is : (base check : List ℤ) → (store_in base check).order ≡ order_in check
unfolding store_in
order-is base check = refl

high : (base check : List ℤ) → is_array base check ≡ true → (store_in base check).order ≤ order_limit
high base check h = omega (arith, order-is base check, opened-order base check h)

pub loop-from-init : goal.loop-from-init
loop-from-init c =
    let four : Four c.args.state = record { words = search rules; backoffs = search rules } in
    record {
      pieced = pieced_begins (store_in c.args.array.base.now c.args.array.check.now) (numbers_of c.args.state) c.args.words.now (length-numbers c.args.state four) (rw (order-is c.args.array.base.now c.args.array.check.now) c.requires.state_value);
      points-long = refl;
      lengths-long = refl;
    }

pub score_words-piece-requires-clause-state_value : goal.score_words-piece-requires-clause-state_value
score_words-piece-requires-clause-state_value c = rw (order-is c.args.array.base.now c.args.array.check.now) at c.loop-from.invariant.pieced.ok

pub score_words-piece-requires-clause-words_len_bound : goal.score_words-piece-requires-clause-words_len_bound
score_words-piece-requires-clause-words_len_bound c =
    let n = length-take-le (c.min-to.result - c.loop-from.from) (drop c.loop-from.from c.args.words.now) (omega (arith, length-drop c.loop-from.from c.args.words.now, c.min-to.ensures, c.loop-from-test.true)) in
    omega (arith, n, c.min-to.ensures, c.requires.words_len_bound)

pub score_words-piece-requires-clause-words_in_bounds : goal.score_words-piece-requires-clause-words_in_bounds
score_words-piece-requires-clause-words_in_bounds c =
    let n = length-take-le (c.min-to.result - c.loop-from.from) (drop c.loop-from.from c.args.words.now) (omega (arith, length-drop c.loop-from.from c.args.words.now, c.min-to.ensures, c.loop-from-test.true)) in
    (omega (arith, n, c.min-to.ensures, c.loop-from.invariant.points-long), omega (arith, n, c.min-to.ensures, c.loop-from.invariant.lengths-long))

pub overflow_add-ran : goal.overflow_add-ran
overflow_add-ran c =
    let base = c.args.array.base.now in
    let check = c.args.array.check.now in
    let S = store_in base check in
    let numbers = numbers_of c.args.state in
    let ws = c.args.words.now in
    let l = c.loop-from in
    let to = c.min-to.result in
    let above : l.from ≤ to = omega (arith, c.min-to.ensures, c.loop-from-test.true) in
    let within : to ≤ length ws = omega (arith, c.min-to.ensures, c.loop-from-test.true) in
    let end = numbers_of l.ran.end in
    let asked : Run = record { words = take (to - l.from) (drop l.from ws); points = l.points; lengths = l.lengths } in
    let answered = answer_of end (Ok c.in-Ok.piece) c.score_words-piece.new.points c.score_words-piece.new.lengths in
    let told = piece_told S numbers ws (rows-in_probability base check) (rows-in_backoff base check) (rows-in_words base check) (high base check c.args.array.is_array) end l.ran.total l.from l.invariant.pieced to above within asked answered c.in-Ok.ensures in
    let f : SFits w64 l.ran.total = search rules in
    let g : SFits w64 c.in-Ok.piece.total = search rules in
    rw (to_z-of_z f, to_z-of_z g) (piece-fits l.ran.total c.in-Ok.piece.total l.invariant.pieced.small (told.small refl) above within c.requires.words_len_bound)

pub overflow_add-result : goal.overflow_add-result
overflow_add-result c =
    let base = c.args.array.base.now in
    let check = c.args.array.check.now in
    let S = store_in base check in
    let numbers = numbers_of c.args.state in
    let ws = c.args.words.now in
    let l = c.loop-from in
    let to = c.min-to.result in
    let above : l.from ≤ to = omega (arith, c.min-to.ensures, c.loop-from-test.true) in
    let within : to ≤ length ws = omega (arith, c.min-to.ensures, c.loop-from-test.true) in
    let end = numbers_of l.ran.end in
    let asked : Run = record { words = take (to - l.from) (drop l.from ws); points = l.points; lengths = l.lengths } in
    let answered = answer_of end (Err c.in-Err.refusal) c.score_words-piece.new.points c.score_words-piece.new.lengths in
    let told = piece_told S numbers ws (rows-in_probability base check) (rows-in_backoff base check) (rows-in_words base check) (high base check c.args.array.is_array) end l.ran.total l.from l.invariant.pieced to above within asked answered c.in-Err.ensures in
    omega (arith, told.place (some-number c.in-Err.refusal.reason), within, above, c.requires.words_len_bound)

pub returns-in-Err : goal.returns-in-Err
returns-in-Err c =
    let base = c.args.array.base.now in
    let check = c.args.array.check.now in
    let S = store_in base check in
    let numbers = numbers_of c.args.state in
    let ws = c.args.words.now in
    let l = c.loop-from in
    let to = c.min-to.result in
    let above : l.from ≤ to = omega (arith, c.min-to.ensures, c.loop-from-test.true) in
    let within : to ≤ length ws = omega (arith, c.min-to.ensures, c.loop-from-test.true) in
    let end = numbers_of l.ran.end in
    let asked : Run = record { words = take (to - l.from) (drop l.from ws); points = l.points; lengths = l.lengths } in
    let answered = answer_of end (Err c.in-Err.refusal) c.score_words-piece.new.points c.score_words-piece.new.lengths in
    let told = piece_told S numbers ws (rows-in_probability base check) (rows-in_backoff base check) (rows-in_words base check) (high base check c.args.array.is_array) end l.ran.total l.from l.invariant.pieced to above within asked answered c.in-Err.ensures in
    sym (told.refused (some-number c.in-Err.refusal.reason))

pub loop-from-preserved : goal.loop-from-preserved
loop-from-preserved c =
    let base = c.args.array.base.now in
    let check = c.args.array.check.now in
    let S = store_in base check in
    let numbers = numbers_of c.args.state in
    let ws = c.args.words.now in
    let l = c.loop-from in
    let to = c.min-to.result in
    let above : l.from ≤ to = omega (arith, c.min-to.ensures, c.loop-from-test.true) in
    let within : to ≤ length ws = omega (arith, c.min-to.ensures, c.loop-from-test.true) in
    let end = numbers_of l.ran.end in
    let asked : Run = record { words = take (to - l.from) (drop l.from ws); points = l.points; lengths = l.lengths } in
    let answered = answer_of end (Ok c.in-Ok.piece) c.score_words-piece.new.points c.score_words-piece.new.lengths in
    let told = piece_told S numbers ws (rows-in_probability base check) (rows-in_backoff base check) (rows-in_words base check) (high base check c.args.array.is_array) end l.ran.total l.from l.invariant.pieced to above within asked answered c.in-Ok.ensures in
    let f : SFits w64 l.ran.total = search rules in
    let g : SFits w64 c.in-Ok.piece.total = search rules in
    let h = piece-fits l.ran.total c.in-Ok.piece.total l.invariant.pieced.small (told.small refl) above within c.requires.words_len_bound in
    rw (to_z-of_z f, to_z-of_z g, to_z-of_z h)
    (record {
      pieced = told.on refl;
      points-long = c.score_words-piece.auto.points ∙ l.invariant.points-long;
      lengths-long = c.score_words-piece.auto.lengths ∙ l.invariant.lengths-long;
    })

pub returns : goal.returns
returns c =
    let base = c.args.array.base.now in
    let check = c.args.array.check.now in
    sym (pieced_ends (store_in base check) (numbers_of c.args.state) c.args.words.now (high base check c.args.array.is_array) (numbers_of c.loop-from.ran.end) c.loop-from.ran.total c.loop-from.from c.loop-from.invariant.pieced c.loop-from-test.false)
