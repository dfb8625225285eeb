-- The state of an output over a sink, from what a sink says about itself.
use Rattle.std.specs.Prelude.{ℕ}
use Rattle.byte_stream.specs.State.{SinkState}
use Rattle.report.specs.declared.output.Output.{Output}
use Rattle.report.specs.Output.{OutputState}

abbrev pub output_state : {S : Type 0} → (S → SinkState) → Output S → OutputState
output_state state o =
    record { sink = state o.sink.now; gathered = o.text.now.items; sent = o.sent }

-- the borrow by which an output holds its sink
abbrev pub sink_name : {S : Type 0} → Output S → ℕ
sink_name o = o.sink.ghost_name
