use Rattle.reading_time.proofs.Common.{◌≡◌, map, reading_data, times_of}
use Rattle.std.specs.Prelude.{All}
use Rattle.reading_time.specs.Reading.{IsLawfulReading}
use Rattle.reading_time.proofs.Lines.{after_readings, left_at}
use Rattle.reading_time.proofs.times.read_times.Given as goal

abbrev pub invariant-loop-done : goal.invariant-loop-done
invariant-loop-done l = record {
  rest : after_readings (map reading_data l.readings.items) (left_at l.done l.rest) ≡ times_of l.text;
  lawful : All (λ r. IsLawfulReading (reading_data r)) l.readings.items;
}
