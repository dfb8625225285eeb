use Rattle.checker.proofs.PieceFit.{few_from_count}
use Rattle.checker.proofs.laws.few_are_false_by_count.Goals as goal

pub returns : goal.returns
returns c claim xs entries course counts few all = few_from_count claim xs entries course counts few all
