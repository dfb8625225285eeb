-- The whole text of `list`: a line for each NTP packet, and a closing line if the capture ends
-- whole.
use Rattle.std.specs.Prelude.{ℕ, List, [], ◌++◌, length, codes, Option, Some, None, Result, Ok, Err}
use Rattle.listing.specs.Common.{decimal, filter_map, CaptureFault, Record, Coming, capture_of, Report, refused}
use Rattle.report.specs.declared.fault.Outcome.TheVariants as outcomes
use Rattle.report.specs.declared.fault.RunFault.TheVariants as faults
use Rattle.listing.specs.PacketLine.{line_of}

-- the last line: how many records, and how many of them hold an NTP packet
unfoldable pub closing_line : ℕ → ℕ → List ℕ
closing_line records packets =
    codes "records " ++ decimal records ++ codes " packets " ++ decimal packets ++ codes "\n"

-- the lines of these records, in order
unfoldable pub lines_of : List Record → List (List ℕ)
lines_of records = filter_map line_of records

-- The report on these records, and then a whole end or a fault, which leaves the closing line out.
abbrev pub report_on : List Record → Option CaptureFault → Report
report_on records None =
    record {
      lines = lines_of records;
      closing = closing_line (length records) (length (lines_of records));
      answer = Ok outcomes.Yes;
    }
report_on records (Some fault) =
    record { lines = lines_of records; closing = []; answer = Err (faults.Capture fault) }

-- the report on what is to come of a capture
unfoldable pub listing : Coming → Report
listing coming = report_on coming.records coming.fault

-- the report on a capture, or on a file with a faulty header, which has no lines
abbrev pub report_of : Result Coming CaptureFault → Report
report_of (Ok coming) = listing coming
report_of (Err fault) = refused (faults.Capture fault)

-- the report on the bytes of a file
unfoldable pub list_report : List ℕ → Report
list_report bytes = report_of (capture_of bytes)
