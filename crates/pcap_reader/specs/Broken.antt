-- Bytes that are no capture: with which records they begin, what is left after these, and what
-- the fault is. As with a capture, nothing here says how the bytes are read.
use Rattle.std.specs.Prelude.{◌≡◌, ◌<◌, ◌≤◌, ◌+◌, ℕ, List, ◌++◌, length, take, drop, Some, ◌⊎◌}
use Rattle.pcap_reader.specs.declared.fault.CaptureFault.{CaptureFault}
use Rattle.pcap_reader.specs.declared.fault.CaptureFault.TheVariants.{TornHeader, Magic, Version, Link}
use Rattle.pcap_reader.specs.declared.format.Format.{Format}
use Rattle.pcap_reader.specs.Field.{spelled}
use Rattle.pcap_reader.specs.Capture.{Record, IsHeader, IsRecordAt, AreRecordsFrom, magic_of, record_spelling, spelling}
use Rattle.pcap_reader.specs.Remaining.{fault_at}

-- the bytes begin with a lawful header and these records
pub record BeginsWith (bytes : List ℕ) (format : Format) (records : List Record)
    (rest : List ℕ) : Type 0 where
  pub header : List ℕ
  pub is_header : IsHeader format header
  pub are_records : AreRecordsFrom format.unit 0 24 records
  pub joined : bytes ≡ header ++ spelling format.order records ++ rest

-- the place in the file where these records end
abbrev pub place_after : Format → List Record → ℕ
place_after format records = 24 + length (spelling format.order records)

-- The bytes begin with these records and with no longer list, something is left, and this fault
-- is the first that applies to it. (No record has a number of 4,000,000 or more, so no list is
-- longer than that.)
pub record IsBrokenAfter (bytes : List ℕ) (records : List Record)
    (fault : CaptureFault) : Type 0 where
  pub format : Format
  pub rest : List ℕ
  pub begins : BeginsWith bytes format records rest
  pub some_rest : 0 < length rest
  pub first_fault : fault_at format (length records) (place_after format records) rest ≡ Some fault
  pub no_record : (r : Record) (after : List ℕ) →
      IsRecordAt format.unit (length records) (place_after format records) r →
      ¬ (rest ≡ record_spelling format.order r ++ after)
  pub longest : (others : List Record) (after : List ℕ) → BeginsWith bytes format others after →
      length others ≤ length records

-- the first four bytes are the magic number of this format
abbrev pub HasMagic : Format → List ℕ → Type 0
HasMagic format bytes = take 4 bytes ≡ spelled format.order 4 (magic_of format.unit)

-- the next four are version 2.4
abbrev pub HasVersion : Format → List ℕ → Type 0
HasVersion format bytes = take 4 (drop 4 bytes)
    ≡ spelled format.order 2 2 ++ spelled format.order 2 4

-- the last four of the header are link type 1
abbrev pub HasLink : Format → List ℕ → Type 0
HasLink format bytes = take 4 (drop 20 bytes) ≡ spelled format.order 4 1

-- the first fault of a header: its length, its magic number, its version, its link type
abbrev pub HasHeaderFault : List ℕ → CaptureFault → Type 0
HasHeaderFault bytes TornHeader = length bytes < 24
HasHeaderFault bytes Magic = (24 ≤ length bytes) × ((format : Format) → ¬ HasMagic format bytes)
HasHeaderFault bytes Version = (24 ≤ length bytes)
    × ((format : Format) × (HasMagic format bytes × ¬ HasVersion format bytes))
HasHeaderFault bytes Link = (24 ≤ length bytes)
    × ((format : Format) × (HasMagic format bytes × HasVersion format bytes
    × ¬ HasLink format bytes))
HasHeaderFault bytes _ = ⊥

-- the one fault of bytes that are no capture
abbrev pub HasFault : List ℕ → CaptureFault → Type 0
HasFault bytes fault = HasHeaderFault bytes fault
    ⊎ ((records : List Record) × IsBrokenAfter bytes records fault)
