use Rattle.std.proofs.Common.{pos, ℕ, refl}
use lib.ListN.{length-replicate}
use lib.Seq.{length-take-le}
use Rattle.backoff.specs.Run.{written}
use Rattle.run_answer.proofs.clear.Goals as goal

pub returns-clause-points : goal.returns-clause-points
unfolding written
returns-clause-points c = rw (c.fill.ensures.after (λ y h. h), length-take-le c.args.count c.args.points.now c.requires.0, length-replicate c.args.count (pos 0)) refl

pub returns-clause-lengths : goal.returns-clause-lengths
unfolding written
returns-clause-lengths c = rw (c.fill-2.ensures.after (λ y h. h), length-take-le c.args.count c.args.lengths.now c.requires.1, length-replicate {A = ℕ} c.args.count 0) refl
