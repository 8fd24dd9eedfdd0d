use Rattle.std.proofs.Common.{refl, Result.Ok}
use Rattle.score.specs.Answers.{started_of}
use Rattle.score.proofs.Sentence.{begun_ok, ran_ok}
use Rattle.closed_sentence.proofs.Calls.{accepted, refused, no_start, no_words_lem, no_closing, all_three, run-answer_small, closing_small, two_fit, two-added}
use Rattle.closed_sentence.proofs.score_sentence.Goals as goal

pub returns-in_err-state : goal.returns-in_err-state
returns-in_err-state c = rw c.from_residual.ensures (no_start _ (started_of c.args.started) c.requires.started_value (refused c.args.started c.in_err-state.ensures.value) _ _ _)

pub run_passed-requires-clause-state_value : goal.run_passed-requires-clause-state_value
run_passed-requires-clause-state_value c =
    let s = rw (accepted c.args.started c.in_ok-state.state c.in_ok-state.ensures.value) at c.requires.started_value in
    begun_ok _ _ c.args.array.is_array (started_of (Ok c.in_ok-state.state)) s refl

pub returns-in_err-ran : goal.returns-in_err-ran
returns-in_err-ran c =
    let s = rw (accepted c.args.started c.in_ok-state.state c.in_ok-state.ensures.value) at c.requires.started_value in
    rw c.from_residual-in_err-ran.ensures
    (no_words_lem _ (started_of (Ok c.in_ok-state.state)) s _ _ c.run_passed.ensures (refused c.run_passed.result c.in_err-ran.ensures.value) _ _)

pub close-requires : goal.close-requires
close-requires c =
    let s = rw (accepted c.args.started c.in_ok-state.state c.in_ok-state.ensures.value) at c.requires.started_value in
    let a = rw (accepted c.run_passed.result c.in_ok-ran.ran c.in_ok-ran.ensures.value) at c.run_passed.ensures in
    ran_ok _ _ c.args.array.is_array (started_of (Ok c.in_ok-state.state)) s refl _ _ a refl

pub returns-in_err-closed : goal.returns-in_err-closed
returns-in_err-closed c =
    let s = rw (accepted c.args.started c.in_ok-state.state c.in_ok-state.ensures.value) at c.requires.started_value in
    let a = rw (accepted c.run_passed.result c.in_ok-ran.ran c.in_ok-ran.ensures.value) at c.run_passed.ensures in
    rw c.from_residual-in_err-closed.ensures (no_closing _ (started_of (Ok c.in_ok-state.state)) s _ _ a c.in_err-closed.ensures _ _)

pub overflow_add-result : goal.overflow_add-result
overflow_add-result c =
    let a = rw (accepted c.run_passed.result c.in_ok-ran.ran c.in_ok-ran.ensures.value) at c.run_passed.ensures in
    two_fit c.in_ok-ran.ran.total c.in_ok-closed.closed.total (run-answer_small _ _ _ _ _ a) (closing_small _ _ _ _ c.in_ok-closed.closed c.in_ok-closed.ensures)

pub returns : goal.returns
returns c =
    let s = rw (accepted c.args.started c.in_ok-state.state c.in_ok-state.ensures.value) at c.requires.started_value in
    let a = rw (accepted c.run_passed.result c.in_ok-ran.ran c.in_ok-ran.ensures.value) at c.run_passed.ensures in
    all_three _ (started_of (Ok c.in_ok-state.state)) s _ _ a refl refl c.in_ok-closed.closed c.in_ok-closed.ensures _
    (two-added c.in_ok-ran.ran.total c.in_ok-closed.closed.total (run-answer_small _ _ _ _ _ a) (closing_small _ _ _ _ c.in_ok-closed.closed c.in_ok-closed.ensures))
