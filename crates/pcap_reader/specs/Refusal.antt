-- Why a feed's bytes are refused as a capture before a record is given.
use Rattle.std.specs.Prelude.{◌≡◌, ℕ, List, Option, Err, IfSome}
use Rattle.pcap_reader.specs.declared.fault.CaptureFault.{CaptureFault}
use Rattle.pcap_reader.specs.declared.fault.CaptureFault.TheVariants.{Read, Memory}
use Rattle.pcap_reader.specs.Fault.{IsHeaderFault}
use Rattle.pcap_reader.specs.Limit.{buffer_size}
use Rattle.pcap_reader.specs.Remaining.{capture_of}

-- A refusal is the header's fault, that of the bytes if they are known. The device's fault and
-- being out of memory say nothing about the bytes.
abbrev pub IsRefusal : Option (List ℕ) → CaptureFault → Type 0
IsRefusal known Read = Unit {0}
IsRefusal known Memory = Unit {0}
IsRefusal known fault =
    IsHeaderFault fault × IfSome known (λ bytes. capture_of bytes ≡ Err fault)

-- How many bytes were taken at most when a capture is refused with this fault: fewer than a header
-- has if the device failed, since a header that is there is answered for; and else one buffer.
abbrev pub most_refused : CaptureFault → ℕ
most_refused Read = 23
most_refused Memory = 0
most_refused _ = buffer_size
