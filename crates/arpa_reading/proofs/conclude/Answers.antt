-- The lines were refused, or the list is judged. Assumes nothing.
use Rattle.std.proofs.Common.{ap, subst, length, arith}
use Rattle.std.proofs.lemmas.Result.{err_from_is_err_and}
use Rattle.backoff.specs.Refusal.{verdict_of, reason_number}
use Rattle.arpa_reading.specs.Held.{LinesHeld}
use Rattle.arpa_reading.proofs.Answers.{concluded_refused, lines-done, concluded_read, concluded_judged}
use Rattle.arpa_reading.proofs.conclude.Goals as goal

pub returns-in_err-ending : goal.returns-in_err-ending
returns-in_err-ending c l size s h =
    let p = err_from_is_err_and c.from_residual.result c.from_residual.ensures.1 in
    let t = c.args.table.now in
    rw (p.1, p.2)
    (concluded_refused c.args.filling (length t) size t s l c.in_err-ending.field-0.0 (subst (λ x. LinesHeld (length t) size t s l x) c.in_err-ending.was h))

pub judge-requires : goal.judge-requires
judge-requires c =
    let t = c.args.table.now in
    let h = subst (λ x. LinesHeld (length t) c.requires.1.0 t c.requires.1.1.0 c.requires.0 x) c.in_ok-ending.was c.requires.1.1.1 in
    let d = lines-done c.args.filling (length t) c.requires.1.0 t c.requires.1.1.0 c.in_ok-ending.ending c.requires.0 h in
    (d.0, d.3)

pub returns-in_err-judge : goal.returns-in_err-judge
returns-in_err-judge c l size s h =
    let p = err_from_is_err_and c.from_residual-in_err-judge.result c.from_residual-in_err-judge.ensures.1 in
    let t = c.args.table.now in
    let g = subst (λ x. LinesHeld (length t) size t s l x) c.in_ok-ending.was h in
    rw (p.1, p.2)
    (concluded_judged c.args.filling (length t) size t s c.in_ok-ending.ending c.judge.new.table (verdict_of c.judge.result) c.judge.ensures l g
    (reason_number c.in_err-judge.field-0.0.reason) c.in_err-judge.field-0.0.place (ap verdict_of c.in_err-judge.was))

pub overflow_cast-result : goal.overflow_cast-result
overflow_cast-result c =
    let t = c.args.table.now in
    let h = subst (λ x. LinesHeld (length t) c.requires.1.0 t c.requires.1.1.0 c.requires.0 x) c.in_ok-ending.was c.requires.1.1.1 in
    let d = lines-done c.args.filling (length t) c.requires.1.0 t c.requires.1.1.0 c.in_ok-ending.ending c.requires.0 h in
    let few = (c.judge.ensures d.0 d.3).few (ap verdict_of c.in_ok-judge.was) in
    let n = d.3.count in
    omega arith

pub returns : goal.returns
returns c l size s h =
    let t = c.args.table.now in
    let g = subst (λ x. LinesHeld (length t) size t s l x) c.in_ok-ending.was h in
    concluded_read c.args.filling (length t) size t s c.in_ok-ending.ending c.judge.new.table (verdict_of c.judge.result) c.judge.ensures l g (ap verdict_of c.in_ok-judge.was)
