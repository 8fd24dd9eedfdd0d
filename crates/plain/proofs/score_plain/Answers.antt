-- Each return has the refusals before it passed and its own met.
use Rattle.std.proofs.Common.{◌≡◌, sym, rules, arith}
use Rattle.std.specs.declared.result.Result.TheVariants.{Err}
use mir.Syntax.{w64}
use mir.Val.{SFits}
use mir.Facts.{to_z-of_z}
use borrow.Author.Rules.{sfits_of}
use Rattle.backoff.specs.Run.{refusal}
use Rattle.backoff.proofs.Run.{fits}
use Rattle.rows.specs.Table.{rows_of, order_of}
use Rattle.list.proofs.Check.{accepted-size}
use Rattle.plain.specs.Plain.{run_of}
use Rattle.plain.proofs.Outcome.{answer-list, answer-run, answer-scored}
use Rattle.plain.proofs.score_plain.Goals as goal

pub returns-in_err-check_list : goal.returns-in_err-check_list
returns-in_err-check_list c =
    let is : c.from_residual.result ≡ Err c.in_err-check_list.field-0.0 = search rules in
    let a = answer-list c.args.table.now c.args.after_start (run_of c.args.words.now c.args.points.now c.args.lengths.now) c.in_err-check_list.field-0.0 c.in_err-check_list.ensures.outcome in
    rw is (record { outcome = a.0; meaning = a.1 })

pub returns-in_err-check_sizes : goal.returns-in_err-check_sizes
unfolding refusal
returns-in_err-check_sizes c =
    let is : c.from_residual-in_err-check_sizes.result ≡ Err (record { reason = c.in_err-check_sizes.field-0.0; place = 0 }) = search rules in
    let a = answer-run c.args.table.now c.args.after_start (run_of c.args.words.now c.args.points.now c.args.lengths.now) (sym c.in_ok-check_list.ensures.outcome) c.in_err-check_sizes.field-0.0 c.in_err-check_sizes.ensures in
    rw is (record { outcome = a.0; meaning = a.1 })

pub overflow_sub-table : goal.overflow_sub-table
unfolding rows_of
overflow_sub-table c = (accepted-size _ (sym c.in_ok-check_list.ensures.outcome)).0

pub length_of-n-requires : goal.length_of-n-requires
unfolding rows_of
length_of-n-requires c = let s = accepted-size _ (sym c.in_ok-check_list.ensures.outcome) in omega (arith, s.0, s.2)

pub score_words-requires : goal.score_words-requires
unfolding order_of rows_of refusal
score_words-requires c =
    let f = fits (run_of c.args.words.now c.args.points.now c.args.lengths.now) (sym c.in_ok-check_sizes.ensures) in
    (sym c.in_ok-check_list.ensures.outcome, c.length_of-n.ensures.0, f.few, f.points, f.lengths)

pub returns : goal.returns
unfolding refusal
returns c =
    let total : SFits w64 c.score_words.result = sfits_of c.score_words.type_inv in
    let s = c.score_words.ensures in
    let a = answer-scored c.args.table.now c.args.after_start (run_of c.args.words.now c.args.points.now c.args.lengths.now) (sym c.in_ok-check_list.ensures.outcome) (sym c.in_ok-check_sizes.ensures) _ _ _ (rw (to_z-of_z total) s.total) s.points s.lengths in
    record { outcome = a.0; meaning = a.1 }
