-- A run at one moment: its inputs and its output.
use Rattle.std.specs.Prelude.{[], Some}
use Rattle.byte_stream.specs.State.{FeedState, SinkState}

-- the claim, the certificate or refutation, the capture, and the sink that the report goes to
pub record RunState : Type 0 where
  pub claim : FeedState
  pub second : FeedState
  pub capture : FeedState
  pub sink : SinkState

abbrev pub run_state : FeedState → FeedState → FeedState → SinkState → RunState
run_state claim second capture sink =
    record { claim = claim; second = second; capture = capture; sink = sink }

-- an input that a command hasn't: it has no byte, gave none, has never failed, and stays so
abbrev pub no_feed : FeedState
no_feed = record { remaining = Some []; taken = 0; faults = 0 }

-- a run whose only input is a capture
abbrev pub capture_state : FeedState → SinkState → RunState
capture_state capture sink = run_state no_feed no_feed capture sink

-- a run with no input
abbrev pub bare_state : SinkState → RunState
bare_state sink = run_state no_feed no_feed no_feed sink
