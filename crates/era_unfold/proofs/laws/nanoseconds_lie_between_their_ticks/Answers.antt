use Rattle.era_unfold.proofs.NanosecondTicks.{IsFloor-ticks_down, IsCeiling-ticks_up}
use Rattle.era_unfold.proofs.laws.nanoseconds_lie_between_their_ticks.Goals as goal

pub returns-clause-down : goal.returns-clause-down
returns-clause-down c n = (IsFloor-ticks_down n).not_above

pub returns-clause-up : goal.returns-clause-up
returns-clause-up c n = (IsCeiling-ticks_up n).not_below

pub returns-clause-greatest : goal.returns-clause-greatest
returns-clause-greatest c n = (IsFloor-ticks_down n).greatest

pub returns-clause-least : goal.returns-clause-least
returns-clause-least c n = (IsCeiling-ticks_up n).least
