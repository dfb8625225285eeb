use Rattle.std.proofs.Common.{refl}
use Rattle.byte_stream.proofs.read_feed.ReadFeed.new.Goals as goal

pub returns : goal.returns
returns g c = refl
