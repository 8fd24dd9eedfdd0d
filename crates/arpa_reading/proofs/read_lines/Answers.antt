-- A line goes on, or stops the reading. Assumes nothing.
use Rattle.std.proofs.Common.{refl, length}
use borrow.Author.Rules.{rules}
use Rattle.arpa_reading.proofs.LinesRead.{reached-start, held-here, step-here, last_line, line_stops, line_goes}
use Rattle.arpa_reading.proofs.read_lines.Goals as goal

pub loop-progress-init : goal.loop-progress-init
loop-progress-init c =
    let t = c.args.table.now in
    let s = c.args.store.now in
    reached-start (length t) (length s) c.args.text.now t s refl refl c.requires.0 c.requires.1

pub returns-then-end-text : goal.returns-then-end-text
returns-then-end-text c =
    last_line (length c.args.table.now) (length c.args.store.now) c.args.text.now c.loop-progress.table c.loop-progress.store c.loop-progress.progress c.loop-progress.place c.loop-progress.at c.loop-progress.invariant
    c.part_end-end.result c.part_end-end.ensures.place c.if-end-text.true _ refl c.last_piece.result c.last_piece.ensures

pub line_step-requires : goal.line_step-requires
line_step-requires c =
    let x = c.loop-progress.invariant in
    (x.reading, held-here (length c.args.table.now) (length c.args.store.now) c.loop-progress.table c.loop-progress.store c.loop-progress.progress x.reading x.held)

pub returns-in-Err : goal.returns-in-Err
returns-in-Err c =
    let m = length c.args.table.now in
    let n = length c.args.store.now in
    let x = c.loop-progress.invariant in
    let h = step-here m n (length c.loop-progress.table) (length c.loop-progress.store) c.line_step.new.table c.line_step.new.store x.reading _ c.line_step.result x.held.table-long x.held.store_long
    (c.line_step.ensures x.reading (held-here m n c.loop-progress.table c.loop-progress.store c.loop-progress.progress x.reading x.held)) in
    line_stops m n c.args.text.now c.loop-progress.table c.loop-progress.store c.loop-progress.progress c.loop-progress.place c.loop-progress.at x
    c.part_end-end.result c.part_end-end.ensures.place c.part_end-end.ensures.within c.if-end-text.false c.line_step.new.table c.line_step.new.store c.in-Err.reason (rw c.in-Err.is at h)

pub overflow_add-place : goal.overflow_add-place
overflow_add-place c =
    let w = c.part_end-end.ensures.within in
    let n = c.if-end-text.false in
    let l = c.loop-progress.invariant.lines in
    search rules

pub loop-progress-preserved : goal.loop-progress-preserved
loop-progress-preserved c =
    let m = length c.args.table.now in
    let n = length c.args.store.now in
    let x = c.loop-progress.invariant in
    let h = step-here m n (length c.loop-progress.table) (length c.loop-progress.store) c.line_step.new.table c.line_step.new.store x.reading _ c.line_step.result x.held.table-long x.held.store_long
    (c.line_step.ensures x.reading (held-here m n c.loop-progress.table c.loop-progress.store c.loop-progress.progress x.reading x.held)) in
    line_goes m n c.args.text.now c.loop-progress.table c.loop-progress.store c.loop-progress.progress c.loop-progress.place c.loop-progress.at x
    c.part_end-end.result c.part_end-end.ensures.place c.part_end-end.ensures.within c.if-end-text.false c.line_step.new.table c.line_step.new.store c.in-Ok.next (rw c.in-Ok.is at h)
