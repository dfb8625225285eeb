-- What bytes at the front of a file's rest show, whatever follows them.
use Rattle.std.specs.Prelude.{◌≡◌, ◌<◌, ℕ, List, [], ◌++◌, length, Some, None}
use Rattle.pcap_reader.specs.declared.fault.CaptureFault.{CaptureFault}
use Rattle.pcap_reader.specs.declared.format.Format.{Format}
use Rattle.pcap_reader.specs.declared.format.RecordHead.{RecordHead}
use Rattle.pcap_reader.specs.Capture.{most_records}
use Rattle.pcap_reader.specs.Remaining.{fault_at, head_at, head_fault}

-- They begin with this header of a record, and it has no fault.
abbrev pub ShowsHead : Format → ℕ → ℕ → List ℕ → RecordHead → Type 0
ShowsHead format number place bytes head =
    (rest : List ℕ) → (head_fault format place (bytes ++ rest) ≡ None)
    × (head ≡ head_at format number place (bytes ++ rest))

-- No record stands there, for this fault: if a record may follow and fewer than 16 bytes are there,
-- they are the last.
abbrev pub ShowsFault : Format → ℕ → ℕ → List ℕ → CaptureFault → Type 0
ShowsFault format number place bytes fault =
    (rest : List ℕ) → (number < most_records → length bytes < 16 → rest ≡ [])
    → fault_at format number place (bytes ++ rest) ≡ Some fault
