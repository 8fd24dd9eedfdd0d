-- Byte by byte, the record is written. Assumes nothing.
use Rattle.std.proofs.Common.{refl, sym, ap, ◌∙◌, List, ℕ, ◌+◌, ◌*◌, length, get_or, drop}
use lib.ListN.{length-set, drop_of_length-le}
use lib.Seq.{sets}
use Rattle.word_index.proofs.Records.{sets-start, sets-step, record_written}
use Rattle.word_index.proofs.write_record.Goals as goal

pub loop-i-init : goal.loop-i-init
loop-i-init c =
    let a = c.args in
    (length-set a.store.now (64 * a.k) (length a.text.now), sets-start _ (64 * a.k + 1) a.text.now)

pub loop-i-preserved : goal.loop-i-preserved
loop-i-preserved c =
    let at = 64 * c.args.k + 1 in
    let l = c.loop-i in
    let text = c.args.text.now in
    let e = c.write_byte.ensures in
    (ap length e ∙ length-set l.store (at + l.i) (get_or text l.i 0) ∙ l.invariant.0, l.invariant.1 ∙ sets-step l.store at text l.i c.loop-i-test.true ∙ ap (λ (s : List ℕ). sets s (at + (l.i + 1)) (drop (l.i + 1) text)) (sym e))

pub returns : goal.returns
returns c =
    let a = c.args in
    sym
    (sym (record_written a.store.now a.k a.text.now c.requires.0 c.requires.1)
    ∙ c.loop-i.invariant.1
    ∙ rw (drop_of_length-le a.text.now c.loop-i-test.false) refl)
