use Rattle.std.proofs.Common.{arith, ◌≤◌, refl, length, ◌+◌, [], Result.Err}
use Rattle.backoff.specs.Limits.{run_limit}
use Rattle.double_array.specs.DoubleArray.{opened}
use Rattle.sentence_ends.specs.Ends.{met_by}
use Rattle.run_answer.proofs.Refused.{some-number}
use Rattle.stretches.specs.Stretches.{sentences, closing_bytes}
use Rattle.stretches.proofs.Stretches.{closing_long, bytes-long}
use Rattle.stretches.proofs.Counters.{tallied_small}
use Rattle.stretches.proofs.Sentences.{sentences-long}
use Rattle.batch.proofs.Outcome.{pass-of, sheet-refused, last_within, lengths-reach, early_outcome, late_outcome, all_outcome, refused_outcome_lem}
use Rattle.batch.proofs.score_sheet.Goals as goal

pub returns-in_err-check_sheet : goal.returns-in_err-check_sheet
returns-in_err-check_sheet c =
    let e = c.in_err-check_sheet.field-0.0 in
    early_outcome (opened c.args.array.base.now c.args.array.check.now) c.args.ends.now (record { words = c.args.words.now; points = c.args.points.now; lengths = c.args.lengths.now }) (met_by (Err e)) c.in_err-check_sheet.ensures (some-number e.reason) _ (sheet-refused c.from_residual.result e c.from_residual.ensures.1)

pub score_sentences-requires-clause-words_len_bound : goal.score_sentences-requires-clause-words_len_bound
score_sentences-requires-clause-words_len_bound c = let p = pass-of c.args.array.base.now c.args.array.check.now c.args.ends.now (record { words = c.args.words.now; points = c.args.points.now; lengths = c.args.lengths.now }) c.in_ok-check_sheet.ensures in p.sizes.few_words

pub score_sentences-requires-clause-ends_len_bound : goal.score_sentences-requires-clause-ends_len_bound
score_sentences-requires-clause-ends_len_bound c = let p = pass-of c.args.array.base.now c.args.array.check.now c.args.ends.now (record { words = c.args.words.now; points = c.args.points.now; lengths = c.args.lengths.now }) c.in_ok-check_sheet.ensures in (p.sizes.few-ends, (p.sizes.points-reach, p.sizes.lengths-reach))

pub full_sheet-requires-clause-ends_len_bound : goal.full_sheet-requires-clause-ends_len_bound
full_sheet-requires-clause-ends_len_bound c =
    let p = pass-of c.args.array.base.now c.args.array.check.now c.args.ends.now (record { words = c.args.words.now; points = c.args.points.now; lengths = c.args.lengths.now }) c.in_ok-check_sheet.ensures in
    let long = bytes-long (opened c.args.array.base.now c.args.array.check.now) (record { words = c.args.words.now; points = c.args.points.now; lengths = c.args.lengths.now }) c.args.ends.now p.ends-good p.sizes.lengths-reach in
    (p.sizes.few-ends, (omega (arith, last_within _ _ _ _ p, p.sizes.few_words), lengths-reach (opened c.args.array.base.now c.args.array.check.now) c.args.ends.now (record { words = c.args.words.now; points = c.args.points.now; lengths = c.args.lengths.now }) c.in-Ok.scored _ _ c.in-Ok.ensures long))

pub full_sheet-requires-clause-by_index : goal.full_sheet-requires-clause-by_index
full_sheet-requires-clause-by_index c =
    let p = pass-of c.args.array.base.now c.args.array.check.now c.args.ends.now (record { words = c.args.words.now; points = c.args.points.now; lengths = c.args.lengths.now }) c.in_ok-check_sheet.ensures in
    let small = tallied_small (closing_bytes (opened c.args.array.base.now c.args.array.check.now) (sentences 0 c.args.ends.now (record { words = c.args.words.now; points = c.args.points.now; lengths = c.args.lengths.now }))) [] c.in-Ok.scored.counts c.in-Ok.ensures.tallied in
    let few : length (closing_bytes (opened c.args.array.base.now c.args.array.check.now) (sentences 0 c.args.ends.now (record { words = c.args.words.now; points = c.args.points.now; lengths = c.args.lengths.now }))) + 0 ≤ run_limit = omega (arith, closing_long (opened c.args.array.base.now c.args.array.check.now) (sentences 0 c.args.ends.now (record { words = c.args.words.now; points = c.args.points.now; lengths = c.args.lengths.now })), sentences-long 0 c.args.ends.now (record { words = c.args.words.now; points = c.args.points.now; lengths = c.args.lengths.now }), p.sizes.few-ends) in
    (λ k. omega (arith, small.matched k, few), omega (arith, small.unknown, few))

pub refuse_sentence-requires-clause-k_in_bounds : goal.refuse_sentence-requires-clause-k_in_bounds
refuse_sentence-requires-clause-k_in_bounds c = let p = pass-of c.args.array.base.now c.args.array.check.now c.args.ends.now (record { words = c.args.words.now; points = c.args.points.now; lengths = c.args.lengths.now }) c.in_ok-check_sheet.ensures in (c.in-Err.ensures.few, p.sizes.few-ends)

pub refuse_sentence-requires-clause-ends_in_bounds : goal.refuse_sentence-requires-clause-ends_in_bounds
refuse_sentence-requires-clause-ends_in_bounds c =
    let p = pass-of c.args.array.base.now c.args.array.check.now c.args.ends.now (record { words = c.args.words.now; points = c.args.points.now; lengths = c.args.lengths.now }) c.in_ok-check_sheet.ensures in
    let u = c.in-Err.ensures in
    (omega (arith, u.points-long, p.sizes.points-reach), omega (arith, u.lengths-long, p.sizes.lengths-reach))

pub returns-in-Ok : goal.returns-in-Ok
returns-in-Ok c =
    let p = pass-of c.args.array.base.now c.args.array.check.now c.args.ends.now (record { words = c.args.words.now; points = c.args.points.now; lengths = c.args.lengths.now }) c.in_ok-check_sheet.ensures in
    let long = bytes-long (opened c.args.array.base.now c.args.array.check.now) (record { words = c.args.words.now; points = c.args.points.now; lengths = c.args.lengths.now }) c.args.ends.now p.ends-good p.sizes.lengths-reach in
    late_outcome (opened c.args.array.base.now c.args.array.check.now) c.args.ends.now (record { words = c.args.words.now; points = c.args.points.now; lengths = c.args.lengths.now }) (record { number = 0; place = 0 }) c.in_ok-check_sheet.ensures refl _
    (all_outcome (opened c.args.array.base.now c.args.array.check.now) c.args.ends.now (record { words = c.args.words.now; points = c.args.points.now; lengths = c.args.lengths.now }) c.in-Ok.scored _ _ c.in-Ok.ensures long _ refl _ (c.full_sheet.ensures (closing_bytes (opened c.args.array.base.now c.args.array.check.now) (sentences 0 c.args.ends.now (record { words = c.args.words.now; points = c.args.points.now; lengths = c.args.lengths.now }))) c.in-Ok.ensures.tallied))

pub returns-in-Err : goal.returns-in-Err
returns-in-Err c =
    late_outcome (opened c.args.array.base.now c.args.array.check.now) c.args.ends.now (record { words = c.args.words.now; points = c.args.points.now; lengths = c.args.lengths.now }) (record { number = 0; place = 0 }) c.in_ok-check_sheet.ensures refl _
    (refused_outcome_lem (opened c.args.array.base.now c.args.array.check.now) c.args.ends.now (record { words = c.args.words.now; points = c.args.points.now; lengths = c.args.lengths.now }) c.in-Err.k _ _ c.in-Err.ensures _ (rw c.refuse_sentence.ensures.refusal) _ c.refuse_sentence.ensures.points _ c.refuse_sentence.ensures.lengths)
