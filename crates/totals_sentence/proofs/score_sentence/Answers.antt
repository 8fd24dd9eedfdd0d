-- `totals_sentence::score_sentence`: the line of what the run tells.
use Rattle.std.proofs.Common.{◌≡◌, ℕ, ℤ, ◌-◌, List, length, w64, refl, ap, ap₂, ◌∙◌, arith, rules}
use Rattle.std.specs.Prelude.{Result, Ok, Err, MatchResult, pos}
use mir.Facts.{to_z-of_z}
use borrow.Author.Rules.{sfits_of}
use Rattle.backoff.specs.declared.Refusal.{Refusal}
use Rattle.run_answer.specs.declared.Ran.{Ran}
use Rattle.backoff.specs.Run.{written}
use Rattle.run_answer.specs.Answers.{total_in}
use Rattle.totals_text.specs.Lines.{sentence_line}
use Rattle.totals_sentence.proofs.Scoring.{scored-unknown, scored-total}
use Rattle.totals_sentence.proofs.score_sentence.Goals as goal

-- the total, or 0 where the run is refused
by_cases : (r : Result Ran (Refusal ℕ)) (total : ℤ) → MatchResult r (λ (ran : Ran). total ≡ ran.total) (λ (refusal : Refusal ℕ). total ≡ pos 0) → total ≡ total_in r
by_cases (Ok ran) total h = h
by_cases (Err refusal) total h = h

pub returns : goal.returns
returns c =
    let ran = c.run-ran in
    let r = c.sentence_line.ensures in
    let told : c.map_or-total.result ≡ total_in ran.result = by_cases ran.result c.map_or-total.result (search rules) in
    let unknown = c.count_unknown-unknown.ensures ∙ scored-unknown c.requires.ready _ c.requires.in_bounds.1 refl refl ran.ensures.outcome (length c.args.words.now - 1) (omega arith) in
    let total = to_z-of_z {w = w64} (sfits_of {w = w64} c.map_or-total.type_inv) ∙ told ∙ scored-total c.requires.ready _ c.requires.in_bounds.1 refl refl ran.ensures.outcome in
    let q = ap₂ (λ (u : ℕ) (t : ℤ). sentence_line c.args.number c.args.n u t) unknown total in
    record { length = r.length ∙ ap length q; room = r.room; text = r.text ∙ ap (λ (l : List ℕ). written l c.args.out.now) q }
