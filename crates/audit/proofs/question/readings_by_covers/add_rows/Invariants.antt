use Rattle.audit.proofs.Common.{◌≡◌, ◌++◌, drop, map}
use Rattle.audit.specs.ByCovers.{hull_row}
use Rattle.audit.specs.Common.{reading_data, rows_from}
use Rattle.audit.proofs.question.readings_by_covers.add_rows.Given as goal

abbrev pub invariant-loop-number : goal.invariant-loop-number
invariant-loop-number l =
    l.text.items ++ rows_from (hull_row l.style l.found) l.number (map reading_data (drop l.number l.readings))
    ≡ l.initial.text.items ++ rows_from (hull_row l.style l.found) 0 (map reading_data l.readings)
