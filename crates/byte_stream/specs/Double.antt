-- What a feed and a sink for tests show.
use Rattle.std.specs.Prelude.{ℕ, Bool}
use Rattle.byte_stream.specs.declared.pace.Pace.{Pace}
use Rattle.byte_stream.specs.declared.test_feed.TestFeed.{TestFeed}
use Rattle.byte_stream.specs.declared.test_sink.TestSink.{TestSink}

-- how a feed goes
abbrev pub feed_pace : TestFeed → Pace
feed_pace feed = feed.pace

-- how a sink goes
abbrev pub sink_pace : TestSink → Pace
sink_pace sink = sink.pace

-- how many more bytes a sink has room for
abbrev pub sink_room : TestSink → ℕ
sink_room sink = sink.held.room

-- whether its `finish` fails
abbrev pub fails_to_finish : TestSink → Bool
fails_to_finish sink = sink.finish_fails
