use Rattle.report.proofs.Common.{arith, take-add, Appends-trans}
use Rattle.report.proofs.delivery.push_all.Goals as goal

pub loop-gone-preserved : goal.loop-gone-preserved
loop-gone-preserved g c = grind (arith, Appends-trans, take-add)
