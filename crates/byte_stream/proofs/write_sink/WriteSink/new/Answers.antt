use Rattle.std.proofs.Common.{refl}
use Rattle.byte_stream.proofs.write_sink.WriteSink.new.Goals as goal

pub returns : goal.returns
returns g c = refl
