-- The header of a file: the format that it settles, or its first fault.
use Rattle.std.specs.Prelude.{◌==◌, ℕ, List, length, drop, Option, Some, None, Result, Ok, Err, nat_lt, if◌then◌else◌}
use Rattle.era_unfold.specs.declared.unit.Unit.TheVariants.{Micro, Nano}
use Rattle.pcap_reader.specs.declared.fault.CaptureFault.{CaptureFault}
use Rattle.pcap_reader.specs.declared.fault.CaptureFault.TheVariants.{TornHeader, Magic, Version, Link}
use Rattle.pcap_reader.specs.declared.format.Endian.TheVariants.{Big, Little}
use Rattle.pcap_reader.specs.declared.format.Format.{Format}
use Rattle.pcap_reader.specs.Field.{number_in}
use Rattle.pcap_reader.specs.Capture.{magic_of}

-- the format that the first four bytes name, in one byte order or the other
abbrev pub format_of : List ℕ → Option Format
format_of bytes =
    if number_in Big 4 bytes == magic_of Micro then Some (record { order = Big; unit = Micro })
    else (if number_in Big 4 bytes == magic_of Nano then Some (record { order = Big; unit = Nano })
    else (if number_in Little 4 bytes == magic_of Micro
    then Some (record { order = Little; unit = Micro })
    else (if number_in Little 4 bytes == magic_of Nano
    then Some (record { order = Little; unit = Nano })
    else None)))

-- version 2.4 and link type 1, or the first fault
abbrev pub version_and_link : Format → List ℕ → Result Format CaptureFault
version_and_link format bytes =
    if number_in format.order 2 (drop 4 bytes) == 2
    then (if number_in format.order 2 (drop 6 bytes) == 4
    then (if number_in format.order 4 (drop 20 bytes) == 1 then Ok format else Err Link)
    else Err Version)
    else Err Version

-- the format of a capture that begins with these bytes, or the fault of its header
unfoldable pub header_of : List ℕ → Result Format CaptureFault
header_of bytes =
    if nat_lt (length bytes) 24 then Err TornHeader
    else (elim (format_of bytes) [
      | None ↦ Err Magic
      | Some format ↦ version_and_link format bytes
    ])
