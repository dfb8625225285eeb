use Rattle.era_unfold.proofs.RecordWindow.{IsFloor-window_low, IsCeiling-window_high}
use Rattle.era_unfold.proofs.laws.window_is_as_near_as_whole_ticks_can_be.Goals as goal

pub returns-clause-begin : goal.returns-clause-begin
returns-clause-begin c unit sec sub tick h = (IsFloor-window_low unit sec sub).greatest tick h

pub returns-clause-end : goal.returns-clause-end
returns-clause-end c unit sec sub tick h = (IsCeiling-window_high unit sec sub).least tick h
