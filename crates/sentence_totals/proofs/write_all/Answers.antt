use Rattle.std.proofs.Common.{arith, ◌≡◌, ◌∙◌, subst, ℕ, ◌+◌, ◌-◌, ◌*◌, ◌^◌, ◌<◌, ◌≤◌, length}
use lib.ListN.{length-drop}
use borrow.Rule.Slice.PartMut.{mid_of, put_mid}
use Rattle.backoff.specs.Runs.{flat}
use Rattle.double_array.specs.DoubleArray.{opened}
use Rattle.score.specs.Answers.{started_of}
use Rattle.sentence_order.specs.Sentences.{ended_by, sentences_of}
use Rattle.sentence_order.specs.Inner.{sentence_at}
use Rattle.sentence_order.specs.Usable.{listed}
use Rattle.sentence_order.proofs.NthSentence.{front_long}
use Rattle.sentence_totals.specs.Inner.{AllWritten, OneRefused}
use Rattle.sentence_totals.proofs.Calls.{refused, start_unscored}
use Rattle.sentence_totals.proofs.Written.{rest-lent, written_none}
use Rattle.sentence_totals.proofs.Groups.{in_groups, all_done, all_room, all-next, all-refused, no_words_lem, none-scored}
use Rattle.sentence_totals.proofs.write_all.Goals as goal

pub returns-then-usable-eq0 : goal.returns-then-usable-eq0
returns-then-usable-eq0 c =
    let sixteen : length c.args.usable.now.words ≡ 16 = c.args.usable.now.long in
    let counted : length (listed c.args.usable.now) ≡ c.args.usable.now.count = front_long c.args.usable.now.words sixteen c.args.usable.now.count c.args.usable.now.few in
    let wf : c.args.k * length (listed c.args.usable.now) ^ c.args.k ≤ length c.args.words.now = rw counted c.requires.k_in_bounds.0 in
    let tf : length (listed c.args.usable.now) ^ c.args.k ≤ length c.args.totals.now = rw counted c.requires.k_in_bounds.1 in
    no_words_lem (opened c.args.array.base.now c.args.array.check.now) (listed c.args.usable.now) c.args.k c.requires.le_k.0 c.args.words.now c.args.totals.now wf tf (counted ∙ c.if-usable-eq0.true)

pub returns-in_err-state : goal.returns-in_err-state
returns-in_err-state c =
    let sixteen : length c.args.usable.now.words ≡ 16 = c.args.usable.now.long in
    let counted : length (listed c.args.usable.now) ≡ c.args.usable.now.count = front_long c.args.usable.now.words sixteen c.args.usable.now.count c.args.usable.now.few in
    let wf : c.args.k * length (listed c.args.usable.now) ^ c.args.k ≤ length c.args.words.now = rw counted c.requires.k_in_bounds.0 in
    let tf : length (listed c.args.usable.now) ^ c.args.k ≤ length c.args.totals.now = rw counted c.requires.k_in_bounds.1 in
    rw c.from_residual.ensures
    (none-scored (opened c.args.array.base.now c.args.array.check.now) (listed c.args.usable.now) c.args.k c.requires.le_k.0 c.args.words.now c.args.totals.now wf tf (omega (arith, counted, c.if-usable-eq0.false))
    (start_unscored (opened c.args.array.base.now c.args.array.check.now) (started_of c.start.result) c.start.ensures.outcome (refused c.start.result c.in_err-state.ensures.value)))

pub loop-g-init : goal.loop-g-init
unfolding flat
loop-g-init c = written_none (opened c.args.array.base.now c.args.array.check.now) c.args.words.now c.args.totals.now

pub write_group-requires-clause-count_in_bounds : goal.write_group-requires-clause-count_in_bounds
write_group-requires-clause-count_in_bounds c =
    let sixteen : length c.args.usable.now.words ≡ 16 = c.args.usable.now.long in
    let counted : length (listed c.args.usable.now) ≡ c.args.usable.now.count = front_long c.args.usable.now.words sixteen c.args.usable.now.count c.args.usable.now.few in
    let wf : c.args.k * length (listed c.args.usable.now) ^ c.args.k ≤ length c.args.words.now = rw counted c.requires.k_in_bounds.0 in
    let tf : length (listed c.args.usable.now) ^ c.args.k ≤ length c.args.totals.now = rw counted c.requires.k_in_bounds.1 in
    let more : c.loop-g.g < length (listed c.args.usable.now) ^ (c.args.k - 1) = rw (counted, ← c.power-g-end.ensures.0) c.loop-g-test.true in
    let within : c.loop-g.g ≤ length (listed c.args.usable.now) ^ (c.args.k - 1) = omega arith in
    let v = c.args.usable.now.count in
    let room : (c.args.k * (c.loop-g.g * v) + c.args.k * v ≤ length c.loop-g.words) × (c.loop-g.g * v + v ≤ length c.loop-g.totals) = subst (λ (v : ℕ). (c.args.k * (c.loop-g.g * v) + c.args.k * v ≤ length c.loop-g.words) × (c.loop-g.g * v + v ≤ length c.loop-g.totals)) counted (all_room (opened c.args.array.base.now c.args.array.check.now) (listed c.args.usable.now) c.args.k c.requires.le_k.0 c.args.words.now c.args.totals.now wf tf c.loop-g.g within c.loop-g.words c.loop-g.totals c.loop-g.invariant more) in
    (rw rest-lent (omega (arith, room, length-drop (c.args.k * (c.loop-g.g * v)) c.loop-g.words)), rw rest-lent (omega (arith, room, length-drop (c.loop-g.g * v) c.loop-g.totals)))

pub returns-in_err-write_group : goal.returns-in_err-write_group
returns-in_err-write_group c =
    let sixteen : length c.args.usable.now.words ≡ 16 = c.args.usable.now.long in
    let counted : length (listed c.args.usable.now) ≡ c.args.usable.now.count = front_long c.args.usable.now.words sixteen c.args.usable.now.count c.args.usable.now.few in
    let wf : c.args.k * length (listed c.args.usable.now) ^ c.args.k ≤ length c.args.words.now = rw counted c.requires.k_in_bounds.0 in
    let tf : length (listed c.args.usable.now) ^ c.args.k ≤ length c.args.totals.now = rw counted c.requires.k_in_bounds.1 in
    let more : c.loop-g.g < length (listed c.args.usable.now) ^ (c.args.k - 1) = rw (counted, ← c.power-g-end.ensures.0) c.loop-g-test.true in
    let within : c.loop-g.g ≤ length (listed c.args.usable.now) ^ (c.args.k - 1) = omega arith in
    rw c.from_residual-in_err-write_group.ensures
    (subst (λ (v : ℕ). OneRefused (opened c.args.array.base.now c.args.array.check.now) (ended_by (listed c.args.usable.now) (sentence_at (listed c.args.usable.now) (c.args.k - 1) c.loop-g.g)) (mid_of (c.args.k * (c.loop-g.g * v)) (length c.loop-g.words - c.args.k * (c.loop-g.g * v)) c.loop-g.words) (mid_of (c.loop-g.g * v) (length c.loop-g.totals - c.loop-g.g * v) c.loop-g.totals) c.write_group.new.words c.write_group.new.totals → OneRefused (opened c.args.array.base.now c.args.array.check.now) (sentences_of c.args.k (listed c.args.usable.now)) c.args.words.now c.args.totals.now (put_mid (c.args.k * (c.loop-g.g * v)) (length c.loop-g.words - c.args.k * (c.loop-g.g * v)) c.loop-g.words c.write_group.new.words) (put_mid (c.loop-g.g * v) (length c.loop-g.totals - c.loop-g.g * v) c.loop-g.totals c.write_group.new.totals)) counted
    (all-refused (opened c.args.array.base.now c.args.array.check.now) (listed c.args.usable.now) c.args.k c.requires.le_k.0 c.args.words.now c.args.totals.now wf tf c.loop-g.g within c.loop-g.words c.loop-g.totals c.loop-g.invariant more c.write_group.new.words c.write_group.new.totals)
    c.in_err-write_group.ensures)

pub loop-g-preserved : goal.loop-g-preserved
loop-g-preserved c =
    let sixteen : length c.args.usable.now.words ≡ 16 = c.args.usable.now.long in
    let counted : length (listed c.args.usable.now) ≡ c.args.usable.now.count = front_long c.args.usable.now.words sixteen c.args.usable.now.count c.args.usable.now.few in
    let wf : c.args.k * length (listed c.args.usable.now) ^ c.args.k ≤ length c.args.words.now = rw counted c.requires.k_in_bounds.0 in
    let tf : length (listed c.args.usable.now) ^ c.args.k ≤ length c.args.totals.now = rw counted c.requires.k_in_bounds.1 in
    let more : c.loop-g.g < length (listed c.args.usable.now) ^ (c.args.k - 1) = rw (counted, ← c.power-g-end.ensures.0) c.loop-g-test.true in
    let within : c.loop-g.g ≤ length (listed c.args.usable.now) ^ (c.args.k - 1) = omega arith in
    subst (λ (v : ℕ). AllWritten (opened c.args.array.base.now c.args.array.check.now) (ended_by (listed c.args.usable.now) (sentence_at (listed c.args.usable.now) (c.args.k - 1) c.loop-g.g)) (mid_of (c.args.k * (c.loop-g.g * v)) (length c.loop-g.words - c.args.k * (c.loop-g.g * v)) c.loop-g.words) (mid_of (c.loop-g.g * v) (length c.loop-g.totals - c.loop-g.g * v) c.loop-g.totals) c.write_group.new.words c.write_group.new.totals → AllWritten (opened c.args.array.base.now c.args.array.check.now) (in_groups (listed c.args.usable.now) c.args.k (c.loop-g.g + 1)) c.args.words.now c.args.totals.now (put_mid (c.args.k * (c.loop-g.g * v)) (length c.loop-g.words - c.args.k * (c.loop-g.g * v)) c.loop-g.words c.write_group.new.words) (put_mid (c.loop-g.g * v) (length c.loop-g.totals - c.loop-g.g * v) c.loop-g.totals c.write_group.new.totals)) counted
    (all-next (opened c.args.array.base.now c.args.array.check.now) (listed c.args.usable.now) c.args.k c.requires.le_k.0 c.args.words.now c.args.totals.now wf tf c.loop-g.g within c.loop-g.words c.loop-g.totals c.loop-g.invariant more c.write_group.new.words c.write_group.new.totals)
    c.in_ok-write_group.ensures

pub returns : goal.returns
returns c =
    let sixteen : length c.args.usable.now.words ≡ 16 = c.args.usable.now.long in
    let counted : length (listed c.args.usable.now) ≡ c.args.usable.now.count = front_long c.args.usable.now.words sixteen c.args.usable.now.count c.args.usable.now.few in
    let wf : c.args.k * length (listed c.args.usable.now) ^ c.args.k ≤ length c.args.words.now = rw counted c.requires.k_in_bounds.0 in
    let tf : length (listed c.args.usable.now) ^ c.args.k ≤ length c.args.totals.now = rw counted c.requires.k_in_bounds.1 in
    let within : c.loop-g.g ≤ length (listed c.args.usable.now) ^ (c.args.k - 1) = rw (counted, ← c.power-g-end.ensures.0) c.loop-g.auto.g-end in
    let done : length (listed c.args.usable.now) ^ (c.args.k - 1) ≤ c.loop-g.g = rw (counted, ← c.power-g-end.ensures.0) c.loop-g-test.false in
    all_done (opened c.args.array.base.now c.args.array.check.now) (listed c.args.usable.now) c.args.k c.requires.le_k.0 c.args.words.now c.args.totals.now wf tf c.loop-g.g within c.loop-g.words c.loop-g.totals c.loop-g.invariant done
