use Rattle.std.proofs.Common.{Some, sym, ap}
use Rattle.byte_stream.proofs.test_sink.TestSink.bytes.Goals as goal

pub returns : goal.returns
returns c = ap Some (sym c.as_slice.ensures.value)
