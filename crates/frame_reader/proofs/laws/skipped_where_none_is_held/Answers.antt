use Rattle.frame_reader.proofs.Exactness.{skipped_without}
use Rattle.frame_reader.proofs.laws.skipped_where_none_is_held.Goals as goal

pub returns : goal.returns
returns c = skipped_without
