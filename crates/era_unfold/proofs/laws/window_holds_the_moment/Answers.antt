use Rattle.era_unfold.proofs.RecordWindow.{IsFloor-window_low, IsCeiling-window_high}
use Rattle.era_unfold.proofs.laws.window_holds_the_moment.Goals as goal

pub returns-clause-begins_before : goal.returns-clause-begins_before
returns-clause-begins_before c unit sec sub = (IsFloor-window_low unit sec sub).not_above

pub returns-clause-ends_after : goal.returns-clause-ends_after
returns-clause-ends_after c unit sec sub = (IsCeiling-window_high unit sec sub).not_below
