-- What the bytes of a refutation give.
use Rattle.std.specs.Prelude.{ℕ, List, Result}
use Rattle.report.specs.Common.{RefutationData, refutation_of}
use Rattle.report.specs.declared.fault.Input.TheVariants as inputs
use Rattle.report.specs.declared.fault.RunFault.{RunFault}
use Rattle.report.specs.declared.fault.RunFault.TheVariants.{Refutation, TooBig, Device, Memory}
use Rattle.report.specs.Reading.{or_fault, whole_read}

-- the greatest length of a refutation's text, in bytes
abbrev pub max_refutation : ℕ
max_refutation = 65536

-- what the bytes of a refutation give
abbrev pub refutation_read : List ℕ → Result RefutationData RunFault
refutation_read bytes =
    whole_read max_refutation inputs.Refutation
    (λ text. or_fault Refutation (refutation_of text)) bytes

-- the faults of reading a refutation
abbrev pub IsOfRefutation : RunFault → Type 0
IsOfRefutation (Refutation fault) = Unit {0}
IsOfRefutation (TooBig inputs.Refutation) = Unit {0}
IsOfRefutation (Device inputs.Refutation) = Unit {0}
IsOfRefutation Memory = Unit {0}
IsOfRefutation _ = ⊥
