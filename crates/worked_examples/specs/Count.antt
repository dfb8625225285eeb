-- How many records a source gives.
use Rattle.std.specs.Prelude.{◌≡◌, ◌⊎◌, ℕ, length, Some, None, Result, Ok, Err}
use Rattle.pcap_reader.specs.declared.fault.CaptureFault.{CaptureFault}
use Rattle.pcap_reader.specs.declared.fault.CaptureFault.TheVariants.{Read}
use Rattle.pcap_reader.specs.Remaining.{Coming}

-- The answer is how many records are to come, if they end whole, otherwise the fault at their end;
-- or the device failed before.
abbrev pub IsCountOf : Coming → Result ℕ CaptureFault → Type 0
IsCountOf coming (Ok count) = (coming.fault ≡ None) × (count ≡ length coming.records)
IsCountOf coming (Err fault) = (fault ≡ Read) ⊎ (coming.fault ≡ Some fault)
