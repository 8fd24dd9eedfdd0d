-- The rows are scanned one by one.
use Rattle.std.proofs.Common.{◌≡◌, ℕ, ◌+◌, ◌<◌, Ok, Option, ap, sym, cond, Bool, ◌∙◌, refl, arith}
use Rattle.std.proofs.lemmas.Grind.{common_steps}
use Rattle.backoff.specs.Refusal.{Verdict, Accepted, Refused, verdict_of, reserved_word}
use Rattle.rows.specs.Table.{rows_of, without_last}
use Rattle.rows.proofs.Good.{good_none}
use Rattle.row_search.specs.Search.{find_in}
use Rattle.rows_before.specs.Before.{fault_in}
use Rattle.rows_before.specs.Faults.{row_fault}
use Rattle.rows_before.proofs.Faults.{passed-row, good_more}
use Rattle.list.specs.Check.{verdict_for}
use Rattle.list.specs.Marks.{mark_found}
use Rattle.list.proofs.Check.{verdict-scan, refused_fault, scan_fault, scan_pass, scan-end, checked-good, checked-before}
use Rattle.list.proofs.Marks.{marked-none, marked_more}
use Rattle.list.proofs.check_rows.Goals as goal
use Rattle.list.proofs.check_rows.Goals.{After-reserved_listed}

pub loop-i-init : goal.loop-i-init
loop-i-init c = record {
  long = refl;
  good = good_none _;
  rest = rw c.requires.1 (verdict-scan _ _ c.requires.0);
  marks = λ a. marked-none _ c.args.marks.now c.requires.2;
}

pub returns-in_err-checked-clause-outcome : goal.returns-in_err-checked-clause-outcome
unfolding rows_of
returns-in_err-checked-clause-outcome c =
    let e : verdict_of c.from_residual.result ≡ Refused (fault_in c.check_row.result) (c.loop-i.i + 1) = grind (arith, common_steps) in
    let f = c.check_row.ensures.fault in
    let n = refused_fault c.check_row.result c.from_residual.result (c.loop-i.i + 1) e in
    e ∙ ap (λ (f : ℕ). Refused f (c.loop-i.i + 1)) f
    ∙ sym (c.loop-i.invariant.rest ∙ scan_fault _ _ _ _ _ (omega arith) (λ z. n (f ∙ z)))

pub loop-i-preserved : goal.loop-i-preserved
unfolding rows_of
loop-i-preserved c =
    let t = c.args.table.now in
    let i = c.loop-i.i in
    let l = c.loop-i.invariant in
    let h : i < rows_of t = omega arith in
    let ok : c.check_row.result ≡ Ok c.in_ok-checked.checked = grind (arith, common_steps) in
    let e : row_fault c.args.filling t c.args.n i ≡ 0 = sym c.check_row.ensures.fault ∙ ap fault_in ok in
    let p = passed-row _ _ _ _ e in
    let last = rw ok at c.check_row.ensures.last in
    record {
      long = omega arith;
      good = good_more _ _ l.good p.fields.good p.after;
      rest = l.rest ∙ scan_pass _ _ _ _ _ h e;
      marks = λ a.
          let f : c.mark_continued.new.marks ≡ mark_found (find_in t (without_last t i)) c.loop-i.marks = c.mark_continued.ensures ∙ ap (λ (f : Option ℕ). mark_found f c.loop-i.marks) (last ∙ checked-before c.args.filling t a i h) in
          rw f (marked_more t (checked-good c.args.filling t a) i c.loop-i.marks (l.marks a));
    }

-- the verdict behind the last row
abbrev last : Bool → Verdict
last b = cond b Accepted (Refused reserved_word 0)

passed-all : (c : After-reserved_listed) → c.loop-i.i ≡ rows_of c.args.table.now
unfolding rows_of
passed-all c = omega arith

ended : (c : After-reserved_listed) → verdict_for c.args.filling c.args.table.now ≡ last c.reserved_listed.result
ended c = c.loop-i.invariant.rest ∙ scan-end _ _ _ _ _ (omega (arith, passed-all c)) ∙ ap (λ (b : Bool). last b) (sym c.reserved_listed.ensures)

pub returns-then-not-reserved_listed-clause-outcome : goal.returns-then-not-reserved_listed-clause-outcome
returns-then-not-reserved_listed-clause-outcome c =
    rw c.into.ensures (sym (ended c.before.before ∙ ap (λ (b : Bool). last b) c.if-not-reserved_listed.true))

pub returns-clause-outcome : goal.returns-clause-outcome
returns-clause-outcome c = sym (ended c.before ∙ ap (λ (b : Bool). last b) c.if-not-reserved_listed.false)

pub returns-clause-marks : goal.returns-clause-marks
returns-clause-marks c = λ z.
    rw (passed-all c.before) at c.loop-i.invariant.marks (ended c.before ∙ ap (λ (b : Bool). last b) c.if-not-reserved_listed.false)
