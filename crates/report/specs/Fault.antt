-- The faults of a run: their numbers, and which of them a fault of the capture is.
use Rattle.std.specs.Prelude.{ℕ}
use Rattle.report.specs.Common.{AnyFault, CaptureFault, ClaimFault, RefutationFault, TimesFault}
use Rattle.pcap_reader.specs.declared.fault.CaptureFault.TheVariants as captures
use Rattle.claim_file.specs.declared.fault.ClaimFault.TheVariants as claims
use Rattle.certificate.specs.declared.fault.CertificateFault.TheVariants as certificates
use Rattle.certificate.specs.declared.refutation_fault.RefutationFault.TheVariants as refutations
use Rattle.cover_certificate.specs.declared.any.AnyFault.TheVariants.{OfPieces, ByCovers}
use Rattle.cover_certificate.specs.declared.fault.CoverFault.TheVariants as covers
use Rattle.reading_time.specs.declared.fault.TimesFault.TheVariants as times
use Rattle.report.specs.declared.fault.Input.TheVariants as inputs
use Rattle.report.specs.declared.fault.RunFault.{RunFault}
use Rattle.report.specs.declared.fault.RunFault.TheVariants.{Capture, Claim, Certificate, Refutation, Exchanges, Pieces, TooBig, Device, Write, Memory, Sums, Times}

-- each fault's number
abbrev pub number_of : RunFault → ℕ
number_of (Capture fault) = 1
number_of (Claim fault) = 2
number_of (Certificate fault) = 3
number_of (Refutation fault) = 4
number_of Exchanges = 5
number_of Pieces = 6
number_of (TooBig input) = 7
number_of (Device input) = 8
number_of (Write sent) = 9
number_of Memory = 10
number_of (Sums fault) = 11
number_of (Times fault) = 12

-- what a run answers whose capture has this fault
abbrev pub run_fault_of : CaptureFault → RunFault
run_fault_of captures.Read = Device inputs.Capture
run_fault_of captures.Memory = Memory
run_fault_of fault = Capture fault

-- what a run answers whose claim has this fault
abbrev pub claim_run_fault_of : ClaimFault → RunFault
claim_run_fault_of claims.Memory = Memory
claim_run_fault_of fault = Claim fault

-- what a run answers whose certificate has this fault
abbrev pub certificate_run_fault_of : AnyFault → RunFault
certificate_run_fault_of (OfPieces certificates.Memory) = Memory
certificate_run_fault_of (ByCovers covers.Memory) = Memory
certificate_run_fault_of fault = Certificate fault

-- what a run answers whose refutation has this fault
abbrev pub refutation_run_fault_of : RefutationFault → RunFault
refutation_run_fault_of refutations.Memory = Memory
refutation_run_fault_of fault = Refutation fault

-- what a run answers whose readings have this fault
abbrev pub times_run_fault_of : TimesFault → RunFault
times_run_fault_of times.Memory = Memory
times_run_fault_of fault = Times fault
