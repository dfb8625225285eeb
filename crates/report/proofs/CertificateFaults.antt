-- What a run tells of a certificate that is refused.
use Rattle.report.proofs.Common.{◌≡◌, ◌⊎◌, inl, inr, ap, Result, Err, AnyData, AnyFault, IsFromOutside, IsMemory, certificate_run_fault_of, or_fault}
use Rattle.certificate.specs.declared.fault.CertificateFault.TheVariants as certificates
use Rattle.cover_certificate.specs.declared.any.AnyFault.TheVariants.{OfPieces, ByCovers}
use Rattle.cover_certificate.specs.declared.fault.CoverFault.TheVariants as covers
use Rattle.report.specs.declared.fault.RunFault.TheVariants as faults

-- its fault is the run's, or memory was refused
pub told : (fault : AnyFault) (read : Result AnyData AnyFault) → IsMemory fault ⊎ (read ≡ Err fault)
    → IsFromOutside (certificate_run_fault_of fault)
    ⊎ (or_fault faults.Certificate read ≡ Err (certificate_run_fault_of fault))
told (OfPieces certificates.Memory) read why = inl tt
told (ByCovers covers.Memory) read why = inl tt
told fault read (inl (inl is)) = absurd cc
told fault read (inl (inr is)) = absurd cc
told fault read (inr is) = inr (ap (or_fault faults.Certificate) is)
