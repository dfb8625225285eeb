use Rattle.std.proofs.Common.{rules}
use Rattle.intersection.proofs.Intervals.{meet_leaves_out}
use Rattle.intersection.proofs.interval.meet.Goals as goal

pub returns-clause-common : goal.returns-clause-common
returns-clause-common c = meet_leaves_out c.args.a c.args.b _ (search rules) (search rules)
