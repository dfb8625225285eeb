use Rattle.frame_reader.proofs.Exactness.{given_exactly}
use Rattle.frame_reader.proofs.laws.given_where_held.Goals as goal

pub returns : goal.returns
returns c = given_exactly
