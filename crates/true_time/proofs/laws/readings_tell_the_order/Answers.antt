use Rattle.true_time.proofs.Before.{one_holds}
use Rattle.true_time.proofs.laws.readings_tell_the_order.Goals as goal

pub returns : goal.returns
returns c = record { holds = one_holds c.widening_is_one_number.ensures.is c.moments_hold.ensures.hold }
