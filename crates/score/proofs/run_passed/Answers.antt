use Rattle.std.proofs.Common.{rules, sym, ◌∙◌}
use Rattle.backoff.specs.Run.{Run}
use Rattle.carried_state.specs.Numbers.{numbers_of}
use Rattle.carried_state.proofs.Carried.{Four, length-numbers}
use Rattle.score.proofs.Outcomes.{Passed, passed-run}
use Rattle.score.proofs.run_passed.Goals as goal

pub returns : goal.returns
returns c =
    let four : Four c.args.state = record { words = search rules; backoffs = search rules } in
    let asked : Run = record { words = c.args.words.now; points = c.args.points.now; lengths = c.args.lengths.now } in
    let q = c.requires in
    let p : Passed c.args.array.base.now c.args.array.check.now (numbers_of c.args.state) asked = record { array = c.args.array.is_array; state = q.state_value; sizes = record { few = q.words_len_bound; points = q.words_in_bounds.0; lengths = q.words_in_bounds.1 } } in
    c.score_words.ensures ∙ sym (passed-run c.args.array.base.now c.args.array.check.now (numbers_of c.args.state) asked p (length-numbers c.args.state four))
