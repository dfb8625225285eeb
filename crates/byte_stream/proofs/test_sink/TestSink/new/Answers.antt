use Rattle.byte_stream.proofs.test_sink.TestSink.new.Goals as goal

pub returns-clause-pace : goal.returns-clause-pace
returns-clause-pace c = c.new-2.ensures
