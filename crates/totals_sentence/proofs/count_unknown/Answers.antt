-- `totals_sentence::count_unknown`: the chain counts the bytes that say so.
use Rattle.std.proofs.Common.{◌≡◌, sym, ◌∙◌, rules, tests}
use Rattle.std.specs.List.{count_by}
use Rattle.backoff.specs.Counts.{says_unknown}
use Rattle.totals_sentence.proofs.Scoring.{count_list}
use Rattle.totals_sentence.proofs.count_unknown.Goals as goal

pub returns : goal.returns
returns c =
    let e : c.count.result ≡ count_by says_unknown c.args.lengths.now = search (rules, tests) in
    e ∙ sym (count_list c.args.lengths.now)
