use Rattle.std.proofs.Common.{arith}
use Rattle.sentence_order.proofs.Sentences.{few-sentences}
use Rattle.sentence_order.proofs.Usable.power.Goals as goal

pub pow-requires : goal.pow-requires
pow-requires c = omega (arith, few-sentences c.args.self.now.count c.args.k c.args.self.now.few c.requires)

pub returns : goal.returns
returns c = (c.pow.ensures, omega (arith, c.pow.ensures, few-sentences c.args.self.now.count c.args.k c.args.self.now.few c.requires))
