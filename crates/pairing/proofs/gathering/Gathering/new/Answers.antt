use Rattle.pairing.proofs.GatheringSteps.{gathered_start}
use Rattle.pairing.proofs.gathering.Gathering.new.Goals as goal

pub returns : goal.returns
returns c = λ claim. rw (c.new-2.ensures.items, c.new.ensures.items, c.zero.ensures) (gathered_start claim)
