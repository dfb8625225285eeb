-- The faults of a capture: their numbers, and which of them a call may answer.
use Rattle.std.specs.Prelude.{ℕ}
use Rattle.pcap_reader.specs.declared.fault.CaptureFault.{CaptureFault}
use Rattle.pcap_reader.specs.declared.fault.CaptureFault.TheVariants.{TornHeader, Magic, Version, Link, TornRecord, TooLong, BadFraction, TooMany, Read, Memory, Failed}

-- each fault's number, in the order of the variants
abbrev pub number_of : CaptureFault → ℕ
number_of TornHeader = 1
number_of Magic = 2
number_of Version = 3
number_of Link = 4
number_of (TornRecord place) = 5
number_of (TooLong place) = 6
number_of (BadFraction place) = 7
number_of TooMany = 8
number_of Read = 9
number_of Memory = 10
number_of Failed = 11

-- a fault that stands in the header of the file
abbrev pub IsHeaderFault : CaptureFault → Type 0
IsHeaderFault TornHeader = Unit {0}
IsHeaderFault Magic = Unit {0}
IsHeaderFault Version = Unit {0}
IsHeaderFault Link = Unit {0}
IsHeaderFault _ = ⊥

-- a fault that stands at a record
abbrev pub IsRecordFault : CaptureFault → Type 0
IsRecordFault (TornRecord place) = Unit {0}
IsRecordFault (TooLong place) = Unit {0}
IsRecordFault (BadFraction place) = Unit {0}
IsRecordFault TooMany = Unit {0}
IsRecordFault _ = ⊥

-- what next_record may answer: a record's fault, the device's, or that there was a fault before
abbrev pub MayAnswer : CaptureFault → Type 0
MayAnswer Read = Unit {0}
MayAnswer Failed = Unit {0}
MayAnswer fault = IsRecordFault fault
