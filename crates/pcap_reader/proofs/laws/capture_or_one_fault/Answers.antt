use Rattle.pcap_reader.proofs.Common.{refl, capture_of}
use Rattle.pcap_reader.proofs.File.{capture_or_fault, capture_faultless, one_fault}
use Rattle.pcap_reader.proofs.laws.capture_or_one_fault.Goals as goal

pub returns-clause-either : goal.returns-clause-either
returns-clause-either c = λ bytes are_bytes. capture_or_fault bytes (capture_of bytes) refl are_bytes

pub returns-clause-not_both : goal.returns-clause-not_both
returns-clause-not_both c = capture_faultless

pub returns-clause-one : goal.returns-clause-one
returns-clause-one c = one_fault
