use Rattle.era_unfold.proofs.StampTick.{IsUnfolded-one_number}
use Rattle.era_unfold.proofs.laws.unfolded_is_one_number.Goals as goal

pub returns : goal.returns
returns c = IsUnfolded-one_number
