use Rattle.frame_reader.proofs.Exactness.{one_datagram}
use Rattle.frame_reader.proofs.laws.holds_one_at_most.Goals as goal

pub returns : goal.returns
returns c = one_datagram
