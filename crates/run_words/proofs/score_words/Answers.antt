use Rattle.std.proofs.Common.{rules, ◌≡◌, ℕ, ◌<◌, ◌≤◌, ◌-◌, true, List, length, get_or, replicate, ℤ, pos, ◌+ℤ◌, sym, ap, ◌∙◌, refl, arith}
use lib.ListN.{length-replicate}
use mir.Syntax.{w32, w64}
use mir.Val.{SFits, to_z}
use mir.Facts.{to_z-of_z}
use Rattle.integer.proofs.Arithmetic.{zarith, abs}
use Rattle.backoff.specs.Limits.{order_limit}
use Rattle.backoff.specs.Run.{written}
use Rattle.backoff.specs.NineNumbers.{state_in}
use Rattle.backoff.specs.Store.{scored, word_step}
use Rattle.double_array.specs.DoubleArray.{is_array, order_in, store_in}
use Rattle.double_array.proofs.DoubleArray.{opened-head, opened-order}
use Rattle.carried_state.specs.Numbers.{numbers_of}
use Rattle.carried_state.specs.Packed.{held_in}
use Rattle.carried_state.proofs.Carried.{Four, packable, packed-held, packed-carries, carries_bounded}
use Rattle.word_walk.proofs.Rows.{rows-in_probability}
use Rattle.word_step.specs.Answers.{byte_of}
use Rattle.run_answer.proofs.Written.{written-set}
use Rattle.run_words.proofs.Sizes.{scored-sizes}
use Rattle.run_words.proofs.Running.{step_to, step-refused, step-next, running_begins, running_on, running_refused, running_ends}
use Rattle.run_words.proofs.score_words.Goals as goal

order-is : (base check : List ℤ) → (store_in base check).order ≡ order_in check
unfolding store_in
order-is base check = refl

high : (base check : List ℤ) → is_array base check ≡ true → (store_in base check).order ≤ order_limit
high base check h = omega (arith, order-is base check, opened-order base check h)

few : (base check : List ℤ) → is_array base check ≡ true → (store_in base check).order - 1 ≤ 4
few base check h = omega (arith, high base check h)

pub pack-carried-requires : goal.pack-carried-requires
pack-carried-requires c =
    let four : Four c.args.state = record { words = search rules; backoffs = search rules } in
    packable (order_in c.args.array.check.now) c.args.state four (opened-order c.args.array.base.now c.args.array.check.now c.args.array.is_array).1 c.requires.state_value

pub next_word-ahead-requires : goal.next_word-ahead-requires
next_word-ahead-requires c = (opened-head c.args.array.base.now c.args.array.check.now c.args.array.is_array).root-check

pub next_word-ahead-requires-in-loop-i : goal.next_word-ahead-requires-in-loop-i
next_word-ahead-requires-in-loop-i c = (opened-head c.args.array.base.now c.args.array.check.now c.args.array.is_array).root-check

pub loop-i-init : goal.loop-i-init
loop-i-init c =
    let base = c.args.array.base.now in
    let check = c.args.array.check.now in
    let n = order_in check in
    let limit = (opened-order base check c.args.array.is_array).1 in
    let four : Four c.args.state = record { words = search rules; backoffs = search rules } in
    rw (c.pack-carried.ensures, c.lent-backoffs.ensures)
    (record {
      running = running_begins (store_in base check) (state_in (numbers_of c.args.state)) c.args.words.now c.args.points.now c.args.lengths.now _ (packed-held n c.args.state four limit c.requires.state_value);
      carries = rw (order-is base check) (packed-carries n c.args.state four limit c.requires.state_value);
      ahead-is = c.next_word-ahead.ensures;
    })

pub step-requires : goal.step-requires
step-requires c = rw (order-is c.args.array.base.now c.args.array.check.now) at c.loop-i.invariant.carries

pub returns-in_default : goal.returns-in_default
returns-in_default c =
    let base = c.args.array.base.now in
    let check = c.args.array.check.now in
    let S = store_in base check in
    let s = state_in (numbers_of c.args.state) in
    let ws = c.args.words.now in
    let l = c.loop-i in
    let w = get_or ws l.i 0 in
    let held = held_in l.carried l.backoffs in
    let more : l.i < length ws = c.loop-i-test.true in
    rw c.refuse_word.ensures.answer
    (running_refused S s ws c.args.points.now c.args.lengths.now held (to_z w64 l.total-bits) l.i l.points l.lengths l.invariant.running more (step-refused S held w (sym (c.in_default.ensures w (l.invariant.ahead-is more)).is)) (numbers_of c.args.state) c.refuse_word.new.points c.refuse_word.new.lengths c.refuse_word.ensures.points c.refuse_word.ensures.lengths)

pub write_word-requires-clause-extended_bound : goal.write_word-requires-clause-extended_bound
write_word-requires-clause-extended_bound c =
    let base = c.args.array.base.now in
    let check = c.args.array.check.now in
    let S = store_in base check in
    let s = state_in (numbers_of c.args.state) in
    let ws = c.args.words.now in
    let l = c.loop-i in
    let w = get_or ws l.i 0 in
    let held = held_in l.carried l.backoffs in
    let more : l.i < length ws = c.loop-i-test.true in
    let score = c.in-Some.stepped.score in
    let byte = byte_of score.kind score.extended in
    let left = held_in c.in-Some.stepped.next c.step.new.backoffs in
    let stepped = c.in-Some.ensures w (l.invariant.ahead-is more) in
    let word-is : word_step S held w ≡ scored score.points byte left = sym stepped.is in
    let sizes = scored-sizes S (rows-in_probability base check) (S.order - 1) (few base check c.args.array.is_array) held (carries_bounded S.order (high base check c.args.array.is_array) l.carried l.backoffs l.invariant.carries) w score.points byte left word-is in
    sizes.1

pub returns-in_default-next_state : goal.returns-in_default-next_state
returns-in_default-next_state c =
    let base = c.args.array.base.now in
    let check = c.args.array.check.now in
    let S = store_in base check in
    let s = state_in (numbers_of c.args.state) in
    let ws = c.args.words.now in
    let l = c.loop-i in
    let w = get_or ws l.i 0 in
    let held = held_in l.carried l.backoffs in
    let more : l.i < length ws = c.loop-i-test.true in
    let score = c.in-Some.stepped.score in
    let byte = byte_of score.kind score.extended in
    let left = held_in c.in-Some.stepped.next c.step.new.backoffs in
    let stepped = c.in-Some.ensures w (l.invariant.ahead-is more) in
    let word-is : word_step S held w ≡ scored score.points byte left = sym stepped.is in
    let sizes = scored-sizes S (rows-in_probability base check) (S.order - 1) (few base check c.args.array.is_array) held (carries_bounded S.order (high base check c.args.array.is_array) l.carried l.backoffs l.invariant.carries) w score.points byte left word-is in
    let n = length ws in
    rw c.refuse_word-in_default-next_state.ensures.answer
    (running_refused S s ws c.args.points.now c.args.lengths.now held (to_z w64 l.total-bits) l.i l.points l.lengths l.invariant.running more
    (step-next S held w score.points byte left word-is ∙ ap (step_to score.points byte) c.in_default-next_state.ensures)
    (numbers_of c.args.state) c.refuse_word-in_default-next_state.new.points c.refuse_word-in_default-next_state.new.lengths
    (c.refuse_word-in_default-next_state.ensures.points ∙ ap (written (replicate n (pos 0))) c.write_word.ensures.points ∙ written-set (replicate n (pos 0)) l.points l.i score.points (omega (arith, more, length-replicate n (pos 0))))
    (c.refuse_word-in_default-next_state.ensures.lengths ∙ ap (written (replicate n 0)) c.write_word.ensures.lengths ∙ written-set (replicate n 0) l.lengths l.i byte (omega (arith, more, length-replicate {A = ℕ} n 0))))

pub loop-i-preserved : goal.loop-i-preserved
loop-i-preserved c =
    let base = c.args.array.base.now in
    let check = c.args.array.check.now in
    let S = store_in base check in
    let s = state_in (numbers_of c.args.state) in
    let ws = c.args.words.now in
    let l = c.loop-i in
    let w = get_or ws l.i 0 in
    let held = held_in l.carried l.backoffs in
    let more : l.i < length ws = c.loop-i-test.true in
    let score = c.in-Some.stepped.score in
    let byte = byte_of score.kind score.extended in
    let left = held_in c.in-Some.stepped.next c.step.new.backoffs in
    let stepped = c.in-Some.ensures w (l.invariant.ahead-is more) in
    let word-is : word_step S held w ≡ scored score.points byte left = sym stepped.is in
    let sizes = scored-sizes S (rows-in_probability base check) (S.order - 1) (few base check c.args.array.is_array) held (carries_bounded S.order (high base check c.args.array.is_array) l.carried l.backoffs l.invariant.carries) w score.points byte left word-is in
    let f : SFits w32 score.points = search rules in
    let g : SFits w64 score.points = omega (zarith, sizes.0, abs score.points) in
    let t : SFits w64 (to_z w64 l.total-bits +ℤ score.points) = omega (zarith, sizes.0, l.invariant.running.total_small, abs score.points, abs (to_z w64 l.total-bits), l.invariant.running.at, c.requires.words_len_bound) in
    let o = c.in-Some-next_state.ensures in
    rw (c.from-total.ensures, to_z-of_z f, to_z-of_z g, to_z-of_z t, c.write_word.ensures.points, c.write_word.ensures.lengths)
    (record {
      running = running_on S s ws c.args.points.now c.args.lengths.now held (to_z w64 l.total-bits) l.i l.points l.lengths l.invariant.running score.points byte (held_in c.in-Some-next_state.next c.next_state.new.backoffs) more c.requires.words_in_bounds.0 c.requires.words_in_bounds.1 sizes.0 (step-next S held w score.points byte left word-is ∙ ap (step_to score.points byte) o.0);
      carries = rw (order-is base check) o.1;
      ahead-is = c.next_word-ahead-in-loop-i.ensures;
    })

pub all_scored-requires : goal.all_scored-requires
all_scored-requires c = omega (arith, c.loop-i.invariant.carries.few, few c.args.array.base.now c.args.array.check.now c.args.array.is_array)

pub returns : goal.returns
returns c =
    let base = c.args.array.base.now in
    let check = c.args.array.check.now in
    let S = store_in base check in
    let s = state_in (numbers_of c.args.state) in
    let ws = c.args.words.now in
    let l = c.loop-i in
    let w = get_or ws l.i 0 in
    let held = held_in l.carried l.backoffs in
    rw (c.all_scored.ensures.total, c.all_scored.ensures.end)
    (running_ends S s ws c.args.points.now c.args.lengths.now held (to_z w64 l.total-bits) l.i l.points l.lengths l.invariant.running c.loop-i-test.false c.requires.words_in_bounds.0 c.requires.words_in_bounds.1 (numbers_of c.args.state))
