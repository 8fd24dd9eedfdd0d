use Rattle.std.proofs.Common.{rules, arith, ◌≡◌, ◌∙◌, sym, ap, ap₂, subst, refl, true, List, ℕ, ℤ, [], ◌∷◌, ◌++◌, ◌+◌, ◌-◌, ◌*◌, ◌<◌, ◌≤◌, ◌+ℤ◌, length, take, drop, get_or, set, w64, FitsSigned, to_z, of_z, Result.Ok}
use Rattle.std.proofs.lemmas.Int.{to_z-of_z}
use lib.Seq.{take_at}
use Rattle.backoff.specs.Limits.{end_word, order_limit}
use Rattle.backoff.specs.State.{State as Carried}
use Rattle.backoff.specs.NineNumbers.{state_in, state_ok}
use Rattle.backoff.specs.Store.{run_over, model_in}
use Rattle.double_array.specs.DoubleArray.{order_in, store_in, opened}
use Rattle.double_array.proofs.DoubleArray.{opened-head, opened-order}
use Rattle.carried_state.specs.Numbers.{numbers_of}
use Rattle.carried_state.specs.Packed.{held_in}
use Rattle.carried_state.proofs.Carried.{Four, packable, packed-held, packed-carries}
use Rattle.sums.specs.Sums.{summed_of, summed}
use Rattle.sums.specs.Closing.{points_over}
use Rattle.sentence_order.specs.Sentences.{ended_by}
use Rattle.sentence_order.specs.Inner.{usable_child, sentence_at}
use Rattle.sentence_order.specs.Usable.{listed}
use Rattle.sentence_order.proofs.Sentences.{length-sentence_at}
use Rattle.sentence_order.proofs.NthSentence.{front_long}
use Rattle.sentence_order.proofs.UsableWords.{usable-not-end}
use Rattle.sentence_totals.specs.Inner.{AllWritten}
use Rattle.sentence_totals.proofs.Calls.{is_ok_of, refused, usable-replaced, start_ok, front_ok, front_unscored, last_unscored, last-scored, total-fits}
use Rattle.sentence_totals.proofs.Written.{written_none}
use Rattle.sentence_totals.proofs.Groups.{group-refused, group-next}
use Rattle.sentence_totals.proofs.write_group.Goals as goal

pub sum_words-requires-clause-state_value : goal.sum_words-requires-clause-state_value
unfolding model_in store_in
sum_words-requires-clause-state_value c = start_ok c.args.array.base.now c.args.array.check.now c.args.state c.requires.begins

pub returns-in_err-before : goal.returns-in_err-before
returns-in_err-before c =
    let sixteen : length c.args.usable.now.words ≡ 16 = c.args.usable.now.long in
    let counted : length (listed c.args.usable.now) ≡ c.args.usable.now.count = front_long c.args.usable.now.words sixteen c.args.usable.now.count c.args.usable.now.few in
    let long : length (sentence_at (listed c.args.usable.now) (c.args.k - 1) c.args.g) + 1 ≡ c.args.k = omega (arith, length-sentence_at (listed c.args.usable.now) (c.args.k - 1) c.args.g, c.requires.le_k) in
    let wf : c.args.k * length (listed c.args.usable.now) ≤ length c.args.words.now = rw counted c.requires.count_in_bounds.0 in
    let tf : length (listed c.args.usable.now) ≤ length c.args.totals.now = rw counted c.requires.count_in_bounds.1 in
    let front-is : take (c.args.k - 1) c.nth_sentence-first.result ≡ (sentence_at (listed c.args.usable.now) (c.args.k - 1) c.args.g) = ap (take (c.args.k - 1)) c.nth_sentence-first.ensures ∙ take_at (sentence_at (listed c.args.usable.now) (c.args.k - 1) c.args.g) _ (c.args.k - 1) (length-sentence_at (listed c.args.usable.now) (c.args.k - 1) c.args.g) in
    let sum-is : summed_of (numbers_of c.args.state) c.sum_words.result ≡ summed (numbers_of c.args.state) (run_over (store_in c.args.array.base.now c.args.array.check.now) (sentence_at (listed c.args.usable.now) (c.args.k - 1) c.args.g) (state_in (numbers_of c.args.state)) 1) = c.sum_words.ensures ∙ ap (λ (ws : List ℕ). summed (numbers_of c.args.state) (run_over (store_in c.args.array.base.now c.args.array.check.now) ws (state_in (numbers_of c.args.state)) 1)) front-is in
    let short : length (sentence_at (listed c.args.usable.now) (c.args.k - 1) c.args.g) < 4 = omega (arith, long, c.requires.le_k) in
    rw c.from_residual.ensures
    (group-refused (opened c.args.array.base.now c.args.array.check.now) (listed c.args.usable.now) (sentence_at (listed c.args.usable.now) (c.args.k - 1) c.args.g) c.args.k long c.args.words.now c.args.totals.now wf tf 0 (omega arith) c.args.words.now c.args.totals.now (written_none (opened c.args.array.base.now c.args.array.check.now) c.args.words.now c.args.totals.now) (omega (arith, counted, c.requires.count_nonzero.0))
    (front_unscored c.args.array.base.now c.args.array.check.now c.args.state c.requires.begins (sentence_at (listed c.args.usable.now) (c.args.k - 1) c.args.g) c.sum_words.result sum-is (get_or (listed c.args.usable.now) 0 0) short (refused c.sum_words.result c.in_err-before.ensures.value)))

pub pack-carried-requires : goal.pack-carried-requires
pack-carried-requires c =
    let sixteen : length c.args.usable.now.words ≡ 16 = c.args.usable.now.long in
    let counted : length (listed c.args.usable.now) ≡ c.args.usable.now.count = front_long c.args.usable.now.words sixteen c.args.usable.now.count c.args.usable.now.few in
    let long : length (sentence_at (listed c.args.usable.now) (c.args.k - 1) c.args.g) + 1 ≡ c.args.k = omega (arith, length-sentence_at (listed c.args.usable.now) (c.args.k - 1) c.args.g, c.requires.le_k) in
    let front-is : take (c.args.k - 1) c.nth_sentence-first.result ≡ (sentence_at (listed c.args.usable.now) (c.args.k - 1) c.args.g) = ap (take (c.args.k - 1)) c.nth_sentence-first.ensures ∙ take_at (sentence_at (listed c.args.usable.now) (c.args.k - 1) c.args.g) _ (c.args.k - 1) (length-sentence_at (listed c.args.usable.now) (c.args.k - 1) c.args.g) in
    let sum-is : summed_of (numbers_of c.args.state) c.sum_words.result ≡ summed (numbers_of c.args.state) (run_over (store_in c.args.array.base.now c.args.array.check.now) (sentence_at (listed c.args.usable.now) (c.args.k - 1) c.args.g) (state_in (numbers_of c.args.state)) 1) = c.sum_words.ensures ∙ ap (λ (ws : List ℕ). summed (numbers_of c.args.state) (run_over (store_in c.args.array.base.now c.args.array.check.now) ws (state_in (numbers_of c.args.state)) 1)) front-is in
    let short : length (sentence_at (listed c.args.usable.now) (c.args.k - 1) c.args.g) < 4 = omega (arith, long, c.requires.le_k) in
    let before = c.in_ok-before.before in
    let ran-is = rw (is_ok_of c.sum_words.result before c.in_ok-before.ensures.value) at sum-is in
    let four : Four before.end = record { words = search rules; backoffs = search rules } in
    let high : order_in c.args.array.check.now ≤ order_limit = (opened-order c.args.array.base.now c.args.array.check.now c.args.array.is_array).1 in
    let passes : state_ok (order_in c.args.array.check.now) (numbers_of before.end) ≡ true = front_ok c.args.array.base.now c.args.array.check.now c.args.state c.requires.begins (sentence_at (listed c.args.usable.now) (c.args.k - 1) c.args.g) (Ok before) ran-is refl in
    packable (order_in c.args.array.check.now) before.end four high passes

pub replaced-closing-requires : goal.replaced-closing-requires
replaced-closing-requires c = (opened-head c.args.array.base.now c.args.array.check.now c.args.array.is_array).root-check

pub loop-j-init : goal.loop-j-init
loop-j-init c = written_none (opened c.args.array.base.now c.args.array.check.now) c.args.words.now c.args.totals.now

pub sum_closed-requires-clause-carries : goal.sum_closed-requires-clause-carries
sum_closed-requires-clause-carries c =
    let sixteen : length c.args.usable.now.words ≡ 16 = c.args.usable.now.long in
    let counted : length (listed c.args.usable.now) ≡ c.args.usable.now.count = front_long c.args.usable.now.words sixteen c.args.usable.now.count c.args.usable.now.few in
    let long : length (sentence_at (listed c.args.usable.now) (c.args.k - 1) c.args.g) + 1 ≡ c.args.k = omega (arith, length-sentence_at (listed c.args.usable.now) (c.args.k - 1) c.args.g, c.requires.le_k) in
    let front-is : take (c.args.k - 1) c.nth_sentence-first.result ≡ (sentence_at (listed c.args.usable.now) (c.args.k - 1) c.args.g) = ap (take (c.args.k - 1)) c.nth_sentence-first.ensures ∙ take_at (sentence_at (listed c.args.usable.now) (c.args.k - 1) c.args.g) _ (c.args.k - 1) (length-sentence_at (listed c.args.usable.now) (c.args.k - 1) c.args.g) in
    let sum-is : summed_of (numbers_of c.args.state) c.sum_words.result ≡ summed (numbers_of c.args.state) (run_over (store_in c.args.array.base.now c.args.array.check.now) (sentence_at (listed c.args.usable.now) (c.args.k - 1) c.args.g) (state_in (numbers_of c.args.state)) 1) = c.sum_words.ensures ∙ ap (λ (ws : List ℕ). summed (numbers_of c.args.state) (run_over (store_in c.args.array.base.now c.args.array.check.now) ws (state_in (numbers_of c.args.state)) 1)) front-is in
    let short : length (sentence_at (listed c.args.usable.now) (c.args.k - 1) c.args.g) < 4 = omega (arith, long, c.requires.le_k) in
    let before = c.in_ok-before.before in
    let ran-is = rw (is_ok_of c.sum_words.result before c.in_ok-before.ensures.value) at sum-is in
    let four : Four before.end = record { words = search rules; backoffs = search rules } in
    let high : order_in c.args.array.check.now ≤ order_limit = (opened-order c.args.array.base.now c.args.array.check.now c.args.array.is_array).1 in
    let passes : state_ok (order_in c.args.array.check.now) (numbers_of before.end) ≡ true = front_ok c.args.array.base.now c.args.array.check.now c.args.state c.requires.begins (sentence_at (listed c.args.usable.now) (c.args.k - 1) c.args.g) (Ok before) ran-is refl in
    rw (c.pack-carried.ensures, c.lent-backoffs.ensures) (packed-carries (order_in c.args.array.check.now) before.end four high passes)

pub sum_closed-requires-clause-last_value : goal.sum_closed-requires-clause-last_value
sum_closed-requires-clause-last_value c =
    let more : c.loop-j.j < length (listed c.args.usable.now) = rw c.words-last-items.ensures at c.loop-j-test.true in
    rw c.words-last-items.ensures (usable-replaced c.args.array.check.now (get_or (listed c.args.usable.now) c.loop-j.j 0) (c.requires.count_nonzero.1 c.loop-j.j more), c.replaced-closing.ensures)

pub returns-in_err-points : goal.returns-in_err-points
returns-in_err-points c =
    let sixteen : length c.args.usable.now.words ≡ 16 = c.args.usable.now.long in
    let counted : length (listed c.args.usable.now) ≡ c.args.usable.now.count = front_long c.args.usable.now.words sixteen c.args.usable.now.count c.args.usable.now.few in
    let long : length (sentence_at (listed c.args.usable.now) (c.args.k - 1) c.args.g) + 1 ≡ c.args.k = omega (arith, length-sentence_at (listed c.args.usable.now) (c.args.k - 1) c.args.g, c.requires.le_k) in
    let wf : c.args.k * length (listed c.args.usable.now) ≤ length c.args.words.now = rw counted c.requires.count_in_bounds.0 in
    let tf : length (listed c.args.usable.now) ≤ length c.args.totals.now = rw counted c.requires.count_in_bounds.1 in
    let front-is : take (c.args.k - 1) c.nth_sentence-first.result ≡ (sentence_at (listed c.args.usable.now) (c.args.k - 1) c.args.g) = ap (take (c.args.k - 1)) c.nth_sentence-first.ensures ∙ take_at (sentence_at (listed c.args.usable.now) (c.args.k - 1) c.args.g) _ (c.args.k - 1) (length-sentence_at (listed c.args.usable.now) (c.args.k - 1) c.args.g) in
    let sum-is : summed_of (numbers_of c.args.state) c.sum_words.result ≡ summed (numbers_of c.args.state) (run_over (store_in c.args.array.base.now c.args.array.check.now) (sentence_at (listed c.args.usable.now) (c.args.k - 1) c.args.g) (state_in (numbers_of c.args.state)) 1) = c.sum_words.ensures ∙ ap (λ (ws : List ℕ). summed (numbers_of c.args.state) (run_over (store_in c.args.array.base.now c.args.array.check.now) ws (state_in (numbers_of c.args.state)) 1)) front-is in
    let short : length (sentence_at (listed c.args.usable.now) (c.args.k - 1) c.args.g) < 4 = omega (arith, long, c.requires.le_k) in
    let before = c.in_ok-before.before in
    let ran-is = rw (is_ok_of c.sum_words.result before c.in_ok-before.ensures.value) at sum-is in
    let four : Four before.end = record { words = search rules; backoffs = search rules } in
    let high : order_in c.args.array.check.now ≤ order_limit = (opened-order c.args.array.base.now c.args.array.check.now c.args.array.is_array).1 in
    let passes : state_ok (order_in c.args.array.check.now) (numbers_of before.end) ≡ true = front_ok c.args.array.base.now c.args.array.check.now c.args.state c.requires.begins (sentence_at (listed c.args.usable.now) (c.args.k - 1) c.args.g) (Ok before) ran-is refl in
    let w = get_or (listed c.args.usable.now) c.loop-j.j 0 in
    let more : c.loop-j.j < length (listed c.args.usable.now) = rw c.words-last-items.ensures at c.loop-j-test.true in
    let within : c.loop-j.j ≤ length (listed c.args.usable.now) = omega arith in
    let usable : usable_child c.args.array.check.now w ≡ true = c.requires.count_nonzero.1 c.loop-j.j more in
    let held : held_in c.pack-carried.result c.lent-backoffs.result ≡ state_in (numbers_of before.end) = ap₂ held_in c.pack-carried.ensures c.lent-backoffs.ensures ∙ packed-held (order_in c.args.array.check.now) before.end four high passes in
    rw c.from_residual-in_err-points.ensures
    (group-refused (opened c.args.array.base.now c.args.array.check.now) (listed c.args.usable.now) (sentence_at (listed c.args.usable.now) (c.args.k - 1) c.args.g) c.args.k long c.args.words.now c.args.totals.now wf tf c.loop-j.j within c.loop-j.words c.loop-j.totals c.loop-j.invariant more
    (last_unscored c.args.array.base.now c.args.array.check.now c.args.state c.requires.begins (sentence_at (listed c.args.usable.now) (c.args.k - 1) c.args.g) (Ok before) ran-is w short refl (usable-not-end c.args.array.check.now w usable) (c.in_err-points.ensures ∙ ap₂ (λ (v : ℕ) (t : Carried). points_over (store_in c.args.array.base.now c.args.array.check.now) (v ∷ end_word ∷ []) t) (ap (λ (l : List ℕ). get_or l c.loop-j.j 0) c.words-last-items.ensures) held)))

pub overflow_add-totals : goal.overflow_add-totals
overflow_add-totals c =
    let sixteen : length c.args.usable.now.words ≡ 16 = c.args.usable.now.long in
    let counted : length (listed c.args.usable.now) ≡ c.args.usable.now.count = front_long c.args.usable.now.words sixteen c.args.usable.now.count c.args.usable.now.few in
    let long : length (sentence_at (listed c.args.usable.now) (c.args.k - 1) c.args.g) + 1 ≡ c.args.k = omega (arith, length-sentence_at (listed c.args.usable.now) (c.args.k - 1) c.args.g, c.requires.le_k) in
    let front-is : take (c.args.k - 1) c.nth_sentence-first.result ≡ (sentence_at (listed c.args.usable.now) (c.args.k - 1) c.args.g) = ap (take (c.args.k - 1)) c.nth_sentence-first.ensures ∙ take_at (sentence_at (listed c.args.usable.now) (c.args.k - 1) c.args.g) _ (c.args.k - 1) (length-sentence_at (listed c.args.usable.now) (c.args.k - 1) c.args.g) in
    let sum-is : summed_of (numbers_of c.args.state) c.sum_words.result ≡ summed (numbers_of c.args.state) (run_over (store_in c.args.array.base.now c.args.array.check.now) (sentence_at (listed c.args.usable.now) (c.args.k - 1) c.args.g) (state_in (numbers_of c.args.state)) 1) = c.sum_words.ensures ∙ ap (λ (ws : List ℕ). summed (numbers_of c.args.state) (run_over (store_in c.args.array.base.now c.args.array.check.now) ws (state_in (numbers_of c.args.state)) 1)) front-is in
    let short : length (sentence_at (listed c.args.usable.now) (c.args.k - 1) c.args.g) < 4 = omega (arith, long, c.requires.le_k) in
    let before = c.in_ok-before.before in
    let ran-is = rw (is_ok_of c.sum_words.result before c.in_ok-before.ensures.value) at sum-is in
    let four : Four before.end = record { words = search rules; backoffs = search rules } in
    let high : order_in c.args.array.check.now ≤ order_limit = (opened-order c.args.array.base.now c.args.array.check.now c.args.array.is_array).1 in
    let passes : state_ok (order_in c.args.array.check.now) (numbers_of before.end) ≡ true = front_ok c.args.array.base.now c.args.array.check.now c.args.state c.requires.begins (sentence_at (listed c.args.usable.now) (c.args.k - 1) c.args.g) (Ok before) ran-is refl in
    let w = get_or (listed c.args.usable.now) c.loop-j.j 0 in
    let more : c.loop-j.j < length (listed c.args.usable.now) = rw c.words-last-items.ensures at c.loop-j-test.true in
    let within : c.loop-j.j ≤ length (listed c.args.usable.now) = omega arith in
    let usable : usable_child c.args.array.check.now w ≡ true = c.requires.count_nonzero.1 c.loop-j.j more in
    let held : held_in c.pack-carried.result c.lent-backoffs.result ≡ state_in (numbers_of before.end) = ap₂ held_in c.pack-carried.ensures c.lent-backoffs.ensures ∙ packed-held (order_in c.args.array.check.now) before.end four high passes in
    let scores = last-scored c.args.array.base.now c.args.array.check.now c.args.state c.requires.begins (sentence_at (listed c.args.usable.now) (c.args.k - 1) c.args.g) (Ok before) ran-is w short refl (usable-not-end c.args.array.check.now w usable) c.in_ok-points.points (c.in_ok-points.ensures ∙ ap₂ (λ (v : ℕ) (t : Carried). points_over (store_in c.args.array.base.now c.args.array.check.now) (v ∷ end_word ∷ []) t) (ap (λ (l : List ℕ). get_or l c.loop-j.j 0) c.words-last-items.ensures) held) in
    let f : FitsSigned w64 before.total = search rules in
    let g : FitsSigned w64 c.in_ok-points.points = search rules in
    rw (to_z-of_z w64 _ f, to_z-of_z w64 _ g, scores.1) (total-fits c.args.array.base.now c.args.array.check.now ((sentence_at (listed c.args.usable.now) (c.args.k - 1) c.args.g) ++ (w ∷ [])))

pub loop-j-preserved : goal.loop-j-preserved
loop-j-preserved c =
    let sixteen : length c.args.usable.now.words ≡ 16 = c.args.usable.now.long in
    let counted : length (listed c.args.usable.now) ≡ c.args.usable.now.count = front_long c.args.usable.now.words sixteen c.args.usable.now.count c.args.usable.now.few in
    let long : length (sentence_at (listed c.args.usable.now) (c.args.k - 1) c.args.g) + 1 ≡ c.args.k = omega (arith, length-sentence_at (listed c.args.usable.now) (c.args.k - 1) c.args.g, c.requires.le_k) in
    let wf : c.args.k * length (listed c.args.usable.now) ≤ length c.args.words.now = rw counted c.requires.count_in_bounds.0 in
    let tf : length (listed c.args.usable.now) ≤ length c.args.totals.now = rw counted c.requires.count_in_bounds.1 in
    let front-is : take (c.args.k - 1) c.nth_sentence-first.result ≡ (sentence_at (listed c.args.usable.now) (c.args.k - 1) c.args.g) = ap (take (c.args.k - 1)) c.nth_sentence-first.ensures ∙ take_at (sentence_at (listed c.args.usable.now) (c.args.k - 1) c.args.g) _ (c.args.k - 1) (length-sentence_at (listed c.args.usable.now) (c.args.k - 1) c.args.g) in
    let sum-is : summed_of (numbers_of c.args.state) c.sum_words.result ≡ summed (numbers_of c.args.state) (run_over (store_in c.args.array.base.now c.args.array.check.now) (sentence_at (listed c.args.usable.now) (c.args.k - 1) c.args.g) (state_in (numbers_of c.args.state)) 1) = c.sum_words.ensures ∙ ap (λ (ws : List ℕ). summed (numbers_of c.args.state) (run_over (store_in c.args.array.base.now c.args.array.check.now) ws (state_in (numbers_of c.args.state)) 1)) front-is in
    let short : length (sentence_at (listed c.args.usable.now) (c.args.k - 1) c.args.g) < 4 = omega (arith, long, c.requires.le_k) in
    let before = c.in_ok-before.before in
    let ran-is = rw (is_ok_of c.sum_words.result before c.in_ok-before.ensures.value) at sum-is in
    let four : Four before.end = record { words = search rules; backoffs = search rules } in
    let high : order_in c.args.array.check.now ≤ order_limit = (opened-order c.args.array.base.now c.args.array.check.now c.args.array.is_array).1 in
    let passes : state_ok (order_in c.args.array.check.now) (numbers_of before.end) ≡ true = front_ok c.args.array.base.now c.args.array.check.now c.args.state c.requires.begins (sentence_at (listed c.args.usable.now) (c.args.k - 1) c.args.g) (Ok before) ran-is refl in
    let w = get_or (listed c.args.usable.now) c.loop-j.j 0 in
    let more : c.loop-j.j < length (listed c.args.usable.now) = rw c.words-last-items.ensures at c.loop-j-test.true in
    let within : c.loop-j.j ≤ length (listed c.args.usable.now) = omega arith in
    let usable : usable_child c.args.array.check.now w ≡ true = c.requires.count_nonzero.1 c.loop-j.j more in
    let held : held_in c.pack-carried.result c.lent-backoffs.result ≡ state_in (numbers_of before.end) = ap₂ held_in c.pack-carried.ensures c.lent-backoffs.ensures ∙ packed-held (order_in c.args.array.check.now) before.end four high passes in
    let scores = last-scored c.args.array.base.now c.args.array.check.now c.args.state c.requires.begins (sentence_at (listed c.args.usable.now) (c.args.k - 1) c.args.g) (Ok before) ran-is w short refl (usable-not-end c.args.array.check.now w usable) c.in_ok-points.points (c.in_ok-points.ensures ∙ ap₂ (λ (v : ℕ) (t : Carried). points_over (store_in c.args.array.base.now c.args.array.check.now) (v ∷ end_word ∷ []) t) (ap (λ (l : List ℕ). get_or l c.loop-j.j 0) c.words-last-items.ensures) held) in
    let f : FitsSigned w64 before.total = search rules in
    let g : FitsSigned w64 c.in_ok-points.points = search rules in
    let x = to_z w64 (of_z w64 (to_z w64 (of_z w64 before.total) +ℤ to_z w64 (of_z w64 c.in_ok-points.points))) in
    let n = c.args.k * c.loop-j.j + (c.args.k - 1) + 1 in
    let total-is : x ≡ before.total +ℤ c.in_ok-points.points = ap (λ (z : ℤ). to_z w64 (of_z w64 z)) (ap₂ (λ (a b : ℤ). a +ℤ b) (to_z-of_z w64 _ f) (to_z-of_z w64 _ g)) ∙ to_z-of_z w64 _ (rw scores.1 (total-fits c.args.array.base.now c.args.array.check.now ((sentence_at (listed c.args.usable.now) (c.args.k - 1) c.args.g) ++ (w ∷ [])))) in
    subst (λ (ws : List ℕ). AllWritten (opened c.args.array.base.now c.args.array.check.now) (take (c.loop-j.j + 1) (ended_by (listed c.args.usable.now) (sentence_at (listed c.args.usable.now) (c.args.k - 1) c.args.g))) c.args.words.now c.args.totals.now ws (set c.loop-j.totals c.loop-j.j x))
    (sym (c.write_sentence.ensures ∙ ap₂ (λ (f : List ℕ) (v : ℕ). take (c.args.k * c.loop-j.j) c.loop-j.words ++ (f ++ (v ∷ [])) ++ drop n c.loop-j.words) front-is (ap (λ (l : List ℕ). get_or l c.loop-j.j 0) c.words-last-items.ensures)))
    (group-next (opened c.args.array.base.now c.args.array.check.now) (listed c.args.usable.now) (sentence_at (listed c.args.usable.now) (c.args.k - 1) c.args.g) c.args.k long c.args.words.now c.args.totals.now wf tf c.loop-j.j within c.loop-j.words c.loop-j.totals c.loop-j.invariant more x n scores.0 (total-is ∙ scores.1) (omega (arith, c.requires.le_k)))
