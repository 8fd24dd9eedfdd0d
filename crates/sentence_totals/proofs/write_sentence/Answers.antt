use Rattle.std.proofs.Common.{rules, arith, ◌≡◌, List, ℕ, ◌+◌, ◌<◌, ◌≤◌, min, set, suc, length, get_or, ap, ◌∙◌}
use lib.Seq.{paste, paste-zero, paste-suc}
use Rattle.sentence_totals.proofs.Written.{last-behind}
use Rattle.sentence_totals.proofs.write_sentence.Goals as goal
use Rattle.sentence_totals.proofs.write_sentence.Goals.{then-j-count, else-j-count}

-- one word more is copied where there are n of them
module _ (d w s : List ℕ) (at j n : ℕ) (copied : w ≡ paste d at s (min j n)) where
  one_more : j < n → at + n < length d → n ≤ length s → set w (at + j) (get_or s j 0) ≡ paste d at s (min (j + 1) n)
  one_more h p q =
      let e : min (j + 1) n ≡ suc j = omega arith in
      let f : min j n ≡ j = omega arith in
      rw (copied, e, f) (paste-suc d at s j 0 (omega arith) (omega arith))

  no_more : n ≤ j → w ≡ paste d at s (min (j + 1) n)
  no_more h = let e : min (j + 1) n ≡ min j n = omega arith in rw e copied

pub loop-j-init : goal.loop-j-init
loop-j-init c =
    let z : min 0 c.args.count ≡ 0 = omega arith in
    rw z (paste-zero c.args.words.now c.args.at c.args.first)

pub loop-j-preserved : goal.loop-j-preserved
loop-j-preserved c =
    let a = c.args in
    let four : length a.first ≡ 4 = search rules in
    elim c.if-j-count.branch [
      | then-j-count w ↦ w.words-is ∙ one_more a.words.now c.loop-j.words a.first a.at c.loop-j.j a.count c.loop-j.invariant w.if-j-count.true c.requires.0 (omega (arith, four, c.requires.1))
      | else-j-count w ↦ w.words-is ∙ no_more a.words.now c.loop-j.words a.first a.at c.loop-j.j a.count c.loop-j.invariant w.if-j-count.false
    ]

pub returns : goal.returns
returns c =
    let a = c.args in
    let four : length a.first ≡ 4 = search rules in
    let e : min c.loop-j.j a.count ≡ a.count = omega (arith, c.loop-j-test.false, c.requires.1) in
    ap (λ (w : List ℕ). set w (a.at + a.count) a.last) (c.loop-j.invariant ∙ ap (paste a.words.now a.at a.first) e)
    ∙ last-behind a.words.now a.at a.first a.count a.last c.requires.0 (omega (arith, four, c.requires.1))
