use Rattle.frame_reader.proofs.Truncation.{skip-cut_held}
use Rattle.frame_reader.proofs.laws.cut_is_short.Goals as goal

pub returns : goal.returns
returns c = skip-cut_held
