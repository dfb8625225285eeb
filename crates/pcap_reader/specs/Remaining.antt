-- What is still to come of a capture: the records that its bytes begin with, and then a whole end
-- or a fault.
use Rattle.std.specs.Prelude.{◌+◌, ◌-◌, ℕ, zero, suc, List, [], ◌∷◌, length, take, drop, Option, Some, None, Result, Ok, Err, nat_lt, nat_le, if◌then◌else◌}
use Rattle.era_unfold.specs.Window.{per_second}
use Rattle.pcap_reader.specs.declared.fault.CaptureFault.{CaptureFault}
use Rattle.pcap_reader.specs.declared.fault.CaptureFault.TheVariants.{TornRecord, TooLong, BadFraction, TooMany}
use Rattle.pcap_reader.specs.declared.format.Endian.{Endian}
use Rattle.pcap_reader.specs.declared.format.Format.{Format}
use Rattle.pcap_reader.specs.declared.format.RecordHead.{RecordHead}
use Rattle.pcap_reader.specs.Field.{number_in}
use Rattle.pcap_reader.specs.Capture.{Record, most_captured, most_records}
use Rattle.pcap_reader.specs.Header.{header_of}

-- records still to be given, and the fault after them: None if the end is whole
pub record Coming : Type 0 where
  pub records : List Record
  pub fault : Option CaptureFault

-- nothing more, and no fault
abbrev pub whole_end : Coming
whole_end = record { records = []; fault = None }

-- nothing more but this fault
abbrev pub broken_end : CaptureFault → Coming
broken_end fault = record { records = []; fault = Some fault }

-- one record, and then the rest
abbrev pub then_coming : Record → Coming → Coming
then_coming r c = record { records = r ∷ c.records; fault = c.fault }

-- the fields of a record's header
abbrev pub sec_in : Endian → List ℕ → ℕ
sec_in order bytes = number_in order 4 bytes

abbrev pub sub_in : Endian → List ℕ → ℕ
sub_in order bytes = number_in order 4 (drop 4 bytes)

abbrev pub captured_in : Endian → List ℕ → ℕ
captured_in order bytes = number_in order 4 (drop 8 bytes)

abbrev pub original_in : Endian → List ℕ → ℕ
original_in order bytes = number_in order 4 (drop 12 bytes)

-- what the sixteen bytes at the front say, as the header of the record with this number at this
-- place
abbrev pub head_at : Format → ℕ → ℕ → List ℕ → RecordHead
head_at format number place bytes =
    record {
      place = place;
      number = number;
      sec = sec_in format.order bytes;
      sub = sub_in format.order bytes;
      unit = format.unit;
      captured = captured_in format.order bytes;
      original = original_in format.order bytes;
    }

-- the fault of sixteen bytes or more, as a record's header: the length before the fraction
abbrev pub head_fault : Format → ℕ → List ℕ → Option CaptureFault
head_fault format place bytes =
    if nat_lt most_captured (captured_in format.order bytes) then Some (TooLong place)
    else (if nat_le (per_second format.unit) (sub_in format.order bytes)
    then Some (BadFraction place) else None)

-- the first fault at a place where at least one byte stands: None if a record stands there
unfoldable pub fault_at : Format → ℕ → ℕ → List ℕ → Option CaptureFault
fault_at format number place bytes =
    if nat_le most_records number then Some TooMany
    else (if nat_lt (length bytes) 16 then Some (TornRecord place)
    else (elim (head_fault format place bytes) [
      | Some fault ↦ Some fault
      | None ↦ (if nat_lt (length bytes) (16 + captured_in format.order bytes)
          then Some (TornRecord place) else None)
    ]))

-- the record at the front
abbrev pub record_at : Format → ℕ → ℕ → List ℕ → Record
record_at format number place bytes =
    record {
      head = head_at format number place bytes;
      bytes = take (captured_in format.order bytes) (drop 16 bytes);
    }

-- What is still to come of these bytes, at this place of the file, with `number` records before it.
-- The first argument counts the records that may still come: it's what the recursion goes by.
unfoldable pub coming_within : ℕ → Format → ℕ → ℕ → List ℕ → Coming
coming_within left format number place [] = whole_end
coming_within zero format number place (byte ∷ bytes) = broken_end TooMany
coming_within (suc left) format number place (byte ∷ bytes) =
    elim (fault_at format number place (byte ∷ bytes)) [
      | Some fault ↦ broken_end fault
      | None ↦ then_coming (record_at format number place (byte ∷ bytes))
          (coming_within left format (number + 1)
          (place + (16 + captured_in format.order (byte ∷ bytes)))
          (drop (16 + captured_in format.order (byte ∷ bytes)) (byte ∷ bytes)))
    ]

unfoldable pub coming_from : Format → ℕ → ℕ → List ℕ → Coming
coming_from format number place bytes =
    coming_within (most_records - number) format number place bytes

-- what is to come of the whole bytes of a file, or the fault of its header
abbrev pub capture_of : List ℕ → Result Coming CaptureFault
capture_of bytes =
    elim (header_of bytes) [
      | Ok format ↦ Ok (coming_from format 0 24 (drop 24 bytes))
      | Err fault ↦ Err fault
    ]
