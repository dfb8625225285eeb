use Rattle.intersection.proofs.Common.{arith, Unbounded}
use Rattle.intersection.proofs.Hulls.{described}
use Rattle.intersection.proofs.marzullo.hull_walk.Goals as goal

pub returns-then-len-wrong-clause-described : goal.returns-then-len-wrong-clause-described
returns-then-len-wrong-clause-described c = described c.args.list.now.items c.args.f Unbounded (omega arith)
