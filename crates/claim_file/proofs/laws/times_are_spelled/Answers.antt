use Rattle.claim_file.proofs.Times.{IsTime-time_of, time_of-IsTime}
use Rattle.claim_file.proofs.laws.times_are_spelled.Goals as goal

pub returns : goal.returns
returns c = λ text second. (IsTime-time_of text second, time_of-IsTime text second)
