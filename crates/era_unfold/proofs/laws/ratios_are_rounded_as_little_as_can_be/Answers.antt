use Rattle.era_unfold.proofs.Rounding.{IsFloor-floor_of, IsCeiling-ceiling_of}
use Rattle.era_unfold.proofs.laws.ratios_are_rounded_as_little_as_can_be.Goals as goal

pub returns-clause-down : goal.returns-clause-down
returns-clause-down c = IsFloor-floor_of

pub returns-clause-up : goal.returns-clause-up
returns-clause-up c = IsCeiling-ceiling_of
