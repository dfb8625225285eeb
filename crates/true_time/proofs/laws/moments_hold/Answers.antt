use Rattle.true_time.proofs.Before.{when_holds}
use Rattle.true_time.proofs.laws.moments_hold.Goals as goal

pub returns : goal.returns
returns c = record { hold = when_holds c.true_time_lies_between.ensures.between }
