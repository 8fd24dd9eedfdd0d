use Rattle.std.proofs.Common.{rules}
use Rattle.stretches.proofs.Counters.{tallied-none}
use Rattle.stretches.proofs.Sentences.{batching_begins, batching_ends}
use Rattle.stretches.proofs.Turn.{turn-of, next-within, next_fits, turn_on, turn-refused}
use Rattle.stretches.proofs.score_sentences.Goals as goal

pub loop-i-init : goal.loop-i-init
loop-i-init c = batching_begins _ _ _ _ tallied-none

pub offset_bounds-words-from : goal.offset_bounds-words-from
offset_bounds-words-from c =
    let t = turn-of c.args.array.base.now c.args.array.check.now c.args.ends.now (record { words = c.args.words.now; points = c.args.points.now; lengths = c.args.lengths.now }) c.loop-i.invariant c.loop-i-test.true c.requires.ends_value c.requires.words_len_bound c.requires.ends_len_bound in
    let w = next-within t in search rules

pub slice_bounds-score_sentence-count : goal.slice_bounds-score_sentence-count
slice_bounds-score_sentence-count c =
    let t = turn-of c.args.array.base.now c.args.array.check.now c.args.ends.now (record { words = c.args.words.now; points = c.args.points.now; lengths = c.args.lengths.now }) c.loop-i.invariant c.loop-i-test.true c.requires.ends_value c.requires.words_len_bound c.requires.ends_len_bound in
    (next-within t).below

pub slice_bounds-score_sentence-start : goal.slice_bounds-score_sentence-start
slice_bounds-score_sentence-start c =
    let t = turn-of c.args.array.base.now c.args.array.check.now c.args.ends.now (record { words = c.args.words.now; points = c.args.points.now; lengths = c.args.lengths.now }) c.loop-i.invariant c.loop-i-test.true c.requires.ends_value c.requires.words_len_bound c.requires.ends_len_bound in
    (next-within t).below

pub slice_bounds-score_sentence-end : goal.slice_bounds-score_sentence-end
slice_bounds-score_sentence-end c =
    let t = turn-of c.args.array.base.now c.args.array.check.now c.args.ends.now (record { words = c.args.words.now; points = c.args.points.now; lengths = c.args.lengths.now }) c.loop-i.invariant c.loop-i-test.true c.requires.ends_value c.requires.words_len_bound c.requires.ends_len_bound in
    (next-within t).in_words

pub offset_bounds-points-from : goal.offset_bounds-points-from
offset_bounds-points-from c =
    let t = turn-of c.args.array.base.now c.args.array.check.now c.args.ends.now (record { words = c.args.words.now; points = c.args.points.now; lengths = c.args.lengths.now }) c.loop-i.invariant c.loop-i-test.true c.requires.ends_value c.requires.words_len_bound c.requires.ends_len_bound in
    let w = next-within t in search rules

pub slice_bounds-score_sentence-count-in-loop-i : goal.slice_bounds-score_sentence-count-in-loop-i
slice_bounds-score_sentence-count-in-loop-i c =
    let t = turn-of c.args.array.base.now c.args.array.check.now c.args.ends.now (record { words = c.args.words.now; points = c.args.points.now; lengths = c.args.lengths.now }) c.loop-i.invariant c.loop-i-test.true c.requires.ends_value c.requires.words_len_bound c.requires.ends_len_bound in
    (next-within t).below

pub slice_bounds-score_sentence-start-in-loop-i : goal.slice_bounds-score_sentence-start-in-loop-i
slice_bounds-score_sentence-start-in-loop-i c =
    let t = turn-of c.args.array.base.now c.args.array.check.now c.args.ends.now (record { words = c.args.words.now; points = c.args.points.now; lengths = c.args.lengths.now }) c.loop-i.invariant c.loop-i-test.true c.requires.ends_value c.requires.words_len_bound c.requires.ends_len_bound in
    (next-within t).below

pub slice_bounds-score_sentence-end-in-loop-i : goal.slice_bounds-score_sentence-end-in-loop-i
slice_bounds-score_sentence-end-in-loop-i c =
    let t = turn-of c.args.array.base.now c.args.array.check.now c.args.ends.now (record { words = c.args.words.now; points = c.args.points.now; lengths = c.args.lengths.now }) c.loop-i.invariant c.loop-i-test.true c.requires.ends_value c.requires.words_len_bound c.requires.ends_len_bound in
    (next-within t).in_points

pub slice_bounds-score_sentence-count-in-loop-i-2 : goal.slice_bounds-score_sentence-count-in-loop-i-2
slice_bounds-score_sentence-count-in-loop-i-2 c =
    let t = turn-of c.args.array.base.now c.args.array.check.now c.args.ends.now (record { words = c.args.words.now; points = c.args.points.now; lengths = c.args.lengths.now }) c.loop-i.invariant c.loop-i-test.true c.requires.ends_value c.requires.words_len_bound c.requires.ends_len_bound in
    (next-within t).below

pub slice_bounds-score_sentence-start-in-loop-i-2 : goal.slice_bounds-score_sentence-start-in-loop-i-2
slice_bounds-score_sentence-start-in-loop-i-2 c =
    let t = turn-of c.args.array.base.now c.args.array.check.now c.args.ends.now (record { words = c.args.words.now; points = c.args.points.now; lengths = c.args.lengths.now }) c.loop-i.invariant c.loop-i-test.true c.requires.ends_value c.requires.words_len_bound c.requires.ends_len_bound in
    (next-within t).below

pub slice_bounds-score_sentence-end-in-loop-i-2 : goal.slice_bounds-score_sentence-end-in-loop-i-2
slice_bounds-score_sentence-end-in-loop-i-2 c =
    let t = turn-of c.args.array.base.now c.args.array.check.now c.args.ends.now (record { words = c.args.words.now; points = c.args.points.now; lengths = c.args.lengths.now }) c.loop-i.invariant c.loop-i-test.true c.requires.ends_value c.requires.words_len_bound c.requires.ends_len_bound in
    (next-within t).in_lengths

pub returns-in_default : goal.returns-in_default
returns-in_default c =
    let t = turn-of c.args.array.base.now c.args.array.check.now c.args.ends.now (record { words = c.args.words.now; points = c.args.points.now; lengths = c.args.lengths.now }) c.loop-i.invariant c.loop-i-test.true c.requires.ends_value c.requires.words_len_bound c.requires.ends_len_bound in
    turn-refused t (record { is = c.score_sentence-scored.ensures; points_kept = c.score_sentence-scored.auto.points; lengths-kept = c.score_sentence-scored.auto.lengths }) c.in_default.is

pub overflow_add-total : goal.overflow_add-total
overflow_add-total c =
    let t = turn-of c.args.array.base.now c.args.array.check.now c.args.ends.now (record { words = c.args.words.now; points = c.args.points.now; lengths = c.args.lengths.now }) c.loop-i.invariant c.loop-i-test.true c.requires.ends_value c.requires.words_len_bound c.requires.ends_len_bound in
    next_fits t (record { is = c.score_sentence-scored.ensures; points_kept = c.score_sentence-scored.auto.points; lengths-kept = c.score_sentence-scored.auto.lengths }) c.in-Some.sentence c.in-Some.is

pub loop-i-preserved : goal.loop-i-preserved
loop-i-preserved c =
    let t = turn-of c.args.array.base.now c.args.array.check.now c.args.ends.now (record { words = c.args.words.now; points = c.args.points.now; lengths = c.args.lengths.now }) c.loop-i.invariant c.loop-i-test.true c.requires.ends_value c.requires.words_len_bound c.requires.ends_len_bound in
    turn_on t (record { is = c.score_sentence-scored.ensures; points_kept = c.score_sentence-scored.auto.points; lengths-kept = c.score_sentence-scored.auto.lengths }) c.in-Some.sentence c.in-Some.is _ c.count_byte.ensures

pub returns : goal.returns
returns c = batching_ends _ _ _ _ _ _ _ _ _ c.loop-i.invariant c.loop-i-test.false
