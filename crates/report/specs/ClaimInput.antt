-- What the bytes of a claim give.
use Rattle.std.specs.Prelude.{ℕ, List, Result}
use Rattle.report.specs.Common.{ClaimData, claim_of}
use Rattle.report.specs.declared.fault.Input.TheVariants as inputs
use Rattle.report.specs.declared.fault.RunFault.{RunFault}
use Rattle.report.specs.declared.fault.RunFault.TheVariants.{Claim, TooBig, Device, Memory}
use Rattle.report.specs.Reading.{or_fault, whole_read}

-- the greatest length of a claim's text, in bytes
abbrev pub max_claim : ℕ
max_claim = 65536

-- what the bytes of a claim give
abbrev pub claim_read : List ℕ → Result ClaimData RunFault
claim_read bytes = whole_read max_claim inputs.Claim (λ text. or_fault Claim (claim_of text)) bytes

-- the faults of reading a claim
abbrev pub IsOfClaim : RunFault → Type 0
IsOfClaim (Claim fault) = Unit {0}
IsOfClaim (TooBig inputs.Claim) = Unit {0}
IsOfClaim (Device inputs.Claim) = Unit {0}
IsOfClaim Memory = Unit {0}
IsOfClaim _ = ⊥
