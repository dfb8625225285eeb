-- The window of a record's time, as it is held: its first tick, and how many ticks there are from
-- there to its last one.
use Rattle.std.specs.Prelude.{ℕ, ◌-◌}
use Rattle.pairing.specs.Common.{window_low, window_high, RecordHead}
use Rattle.pairing.specs.declared.compact_window.CompactWindow.{CompactWindow}

abbrev pub tick_of : RecordHead → ℕ
tick_of head = window_low head.unit head.sec head.sub

abbrev pub width_of : RecordHead → ℕ
width_of head = window_high head.unit head.sec head.sub - window_low head.unit head.sec head.sub

abbrev pub window_of : RecordHead → CompactWindow
window_of head = record { low = tick_of head; width = width_of head }
