use Rattle.true_time.proofs.Common.{◌≡◌, ◌++◌, drop, map, data_of, reading_data, rows_from}
use Rattle.true_time.specs.Common.{OfTables}
use Rattle.true_time.specs.ReadingLine.{reading_row}
use Rattle.true_time.proofs.reading_line.add_readings.Given as goal

abbrev pub invariant-loop-number : goal.invariant-loop-number
invariant-loop-number l = OfTables (data_of l.claim) l.tables (λ samples.
    l.text.items
    ++ rows_from (reading_row l.style samples (data_of l.claim)) l.number (map reading_data (drop l.number l.readings))
    ≡ l.initial.text.items
    ++ rows_from (reading_row l.style samples (data_of l.claim)) 0 (map reading_data l.readings))
