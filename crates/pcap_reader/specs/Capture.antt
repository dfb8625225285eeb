-- A classic capture, as the manual of libpcap's savefiles describes it (pcap-savefile(5)): the
-- bytes are one header of 24 bytes and then the records, nothing between them and nothing after.
-- Everything here is a relation on whole lists of bytes; nothing says in which order they are
-- read.
use Rattle.std.specs.Prelude.{◌≡◌, ◌<◌, ◌≤◌, ◌+◌, ◌^◌, ℕ, List, [], ◌∷◌, ◌++◌, length}
use Rattle.std.specs.List.{flat_map}
use Rattle.era_unfold.specs.Window.{per_second}
use Rattle.era_unfold.specs.declared.unit.Unit.{Unit as TimeUnit}
use Rattle.era_unfold.specs.declared.unit.Unit.TheVariants.{Micro, Nano}
use Rattle.pcap_reader.specs.declared.format.Endian.{Endian}
use Rattle.pcap_reader.specs.declared.format.Format.{Format}
use Rattle.pcap_reader.specs.declared.format.RecordHead.{RecordHead}
use Rattle.pcap_reader.specs.Field.{spelled}

-- a record: its header and the captured bytes
pub record Record : Type 0 where
  pub head : RecordHead
  pub bytes : List ℕ

-- the magic number, which says what unit the sub-second fields have
abbrev pub magic_of : TimeUnit → ℕ
magic_of Micro = 0xa1b2c3d4
magic_of Nano = 0xa1b23c4d

-- a header of version 2.4 and of link type 1, Ethernet: eight bytes are ignored, and the snapshot
-- length isn't checked
pub record IsHeader (format : Format) (bytes : List ℕ) : Type 0 where
  pub ignored : List ℕ
  pub snapshot : List ℕ
  pub ignored_length : length ignored ≡ 8
  pub snapshot_length : length snapshot ≡ 4
  pub joined : bytes ≡ spelled format.order 4 (magic_of format.unit) ++ spelled format.order 2 2
      ++ spelled format.order 2 4 ++ ignored ++ snapshot ++ spelled format.order 4 1

-- a record's bytes in the file: seconds, part of the second, captured length, original length,
-- and what was captured
abbrev pub record_spelling : Endian → Record → List ℕ
record_spelling order r =
    spelled order 4 r.head.sec ++ spelled order 4 r.head.sub ++ spelled order 4 r.head.captured
    ++ spelled order 4 r.head.original ++ r.bytes

abbrev pub spelling : Endian → List Record → List ℕ
spelling order records = flat_map (record_spelling order) records

-- the longest record, and the greatest number of records
abbrev pub most_captured : ℕ
most_captured = 262144

abbrev pub most_records : ℕ
most_records = 4000000

-- what the header of a record may say
pub record IsLawfulHead (head : RecordHead) : Type 0 where
  pub number : head.number < most_records
  pub sec : head.sec < 2 ^ 32
  pub sub : head.sub < per_second head.unit
  pub captured : head.captured ≤ most_captured
  pub original : head.original < 2 ^ 32

-- the record with this number, at this place of a capture of this unit
pub record IsRecordAt (unit : TimeUnit) (number place : ℕ) (r : Record) : Type 0 where
  pub lawful : IsLawfulHead r.head
  pub number_is : r.head.number ≡ number
  pub place_is : r.head.place ≡ place
  pub unit_is : r.head.unit ≡ unit
  pub whole : length r.bytes ≡ r.head.captured

-- records, the first with this number and at this place, each later one right after the one
-- before
abbrev pub AreRecordsFrom : TimeUnit → ℕ → ℕ → List Record → Type 0
AreRecordsFrom unit number place [] = Unit {0}
AreRecordsFrom unit number place (r ∷ rs) = IsRecordAt unit number place r
    × AreRecordsFrom unit (number + 1) (place + (16 + length r.bytes)) rs

-- The bytes spell these records in this format. (No record has a number of 4,000,000 or more.)
pub record IsCapture (bytes : List ℕ) (format : Format) (records : List Record) : Type 0 where
  pub header : List ℕ
  pub is_header : IsHeader format header
  pub are_records : AreRecordsFrom format.unit 0 24 records
  pub joined : bytes ≡ header ++ spelling format.order records
