-- What the bytes of a certificate of either form give.
use Rattle.std.specs.Prelude.{ℕ, List, Result}
use Rattle.report.specs.Common.{AnyData, any_of}
use Rattle.report.specs.declared.fault.Input.TheVariants as inputs
use Rattle.report.specs.declared.fault.RunFault.{RunFault}
use Rattle.report.specs.declared.fault.RunFault.TheVariants.{Certificate, TooBig, Device, Memory}
use Rattle.report.specs.Reading.{or_fault, whole_read}

-- the greatest length of a certificate's text, in bytes
abbrev pub max_certificate : ℕ
max_certificate = 134217728

-- what the bytes of a certificate of either form give
abbrev pub certificate_read : List ℕ → Result AnyData RunFault
certificate_read bytes =
    whole_read max_certificate inputs.Certificate
    (λ text. or_fault Certificate (any_of text)) bytes

-- the faults of reading a certificate
abbrev pub IsOfCertificate : RunFault → Type 0
IsOfCertificate (Certificate fault) = Unit {0}
IsOfCertificate (TooBig inputs.Certificate) = Unit {0}
IsOfCertificate (Device inputs.Certificate) = Unit {0}
IsOfCertificate Memory = Unit {0}
IsOfCertificate _ = ⊥
