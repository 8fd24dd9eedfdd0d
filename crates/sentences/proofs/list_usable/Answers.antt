use Rattle.std.proofs.Common.{◌≡◌, ap, ◌*◌, ◌^◌, length}
use Rattle.sentence_order.proofs.NthSentence.{front_long}
use Rattle.sentence_order.specs.Usable.{listed}
use Rattle.sentences.proofs.Outcome.{full_outcome, broken_outcome}
use Rattle.sentences.proofs.list_usable.Goals as goal

pub returns-in_default : goal.returns-in_default
returns-in_default c =
    let u = c.args.usable.now in
    let n : c.power-sentences.result ≡ length (listed u) ^ c.args.k = rw (front_long u.words u.long u.count u.few) c.power-sentences.ensures.0 in
    broken_outcome _ _ _ _ _ _ _ c.in_default.ensures (c.args.k * c.power-sentences.result) c.power-sentences.result (ap (λ m. c.args.k * m) n) n _ _ c.clear.ensures.words c.clear.ensures.totals

pub returns : goal.returns
returns c =
    let u = c.args.usable.now in
    let n : c.power-sentences.result ≡ length (listed u) ^ c.args.k = rw (front_long u.words u.long u.count u.few) c.power-sentences.ensures.0 in
    full_outcome _ _ _ _ _ _ _ c.in-Some.ensures _ n
