use Rattle.frame_reader.proofs.Exactness.{skipped_exactly}
use Rattle.frame_reader.proofs.laws.refused_where_skipped.Goals as goal

pub returns : goal.returns
returns c = skipped_exactly
