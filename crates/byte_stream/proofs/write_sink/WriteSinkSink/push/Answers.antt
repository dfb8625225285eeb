use Rattle.std.proofs.Common.{refl}
use Rattle.byte_stream.proofs.write_sink.WriteSinkSink.push.Goals as goal

pub returns-in-None-clause-stays_open : goal.returns-in-None-clause-stays_open
returns-in-None-clause-stays_open g c = refl
