use Rattle.intersection.proofs.Intervals.{meet_leaves_fraction_out}
use Rattle.intersection.proofs.laws.meet_keeps_common_fractions.Goals as goal

pub returns : goal.returns
returns c = meet_leaves_fraction_out
