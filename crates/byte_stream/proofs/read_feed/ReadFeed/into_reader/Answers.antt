use Rattle.std.proofs.Common.{refl}
use Rattle.byte_stream.proofs.read_feed.ReadFeed.into_reader.Goals as goal

pub returns : goal.returns
returns g c = refl
