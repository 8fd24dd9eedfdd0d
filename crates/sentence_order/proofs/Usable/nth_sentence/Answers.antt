use Rattle.std.proofs.Common.{rules, ◌≡◌, ◌/◌, ◌%◌, ◌-◌, length, set, get_or, subst}
use Rattle.sentence_order.specs.Usable.{listed}
use Rattle.sentence_order.proofs.NthSentence.{Filling, filling-next, filling-done, front_long, front-word}
use Rattle.sentence_order.proofs.Usable.nth_sentence.Goals as goal

pub loop-j-preserved : goal.loop-j-preserved
loop-j-preserved c =
    let u = c.args.self.now in
    let sixteen : length u.words ≡ 16 = search rules in
    subst (λ m. Filling (listed u) c.args.k c.args.i (set c.loop-j.sentence (c.loop-j.j - 1) (get_or u.words (c.loop-j.rest % u.count) 0)) (c.loop-j.rest / m) (c.loop-j.j - 1))
    (front_long u.words sixteen u.count u.few)
    (filling-next _ _ _ c.requires.1 _ _ c.loop-j.j _ c.loop-j-test.true (front-word u.words sixteen u.count u.few c.loop-j.rest c.requires.0) c.loop-j.invariant)

pub returns : goal.returns
returns c = filling-done _ _ _ c.requires.1 _ _ c.loop-j.j c.loop-j-test.false c.loop-j.invariant
