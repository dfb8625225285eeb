use Rattle.era_unfold.proofs.StampTick.{IsUnfolded-unfolded}
use Rattle.era_unfold.proofs.laws.every_stamp_is_unfolded.Goals as goal

pub returns : goal.returns
returns c = IsUnfolded-unfolded
