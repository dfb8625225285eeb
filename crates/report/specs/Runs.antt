-- What every engine promises that holds a capture against a claim.
use Rattle.std.specs.Prelude.{◌≡◌, ◌⊎◌, ℕ, List, Option, Result, Err, IfErr, IfSome, IsOk}
use Rattle.report.specs.Common.{Keeps, TakesAtMost, most_taken, capture_of}
use Rattle.report.specs.declared.fault.Input.TheVariants as inputs
use Rattle.report.specs.declared.fault.Outcome.{Outcome}
use Rattle.report.specs.declared.fault.RunFault.{RunFault}
use Rattle.report.specs.declared.fault.RunFault.TheVariants.{Claim, Certificate, Refutation, Times, TooBig, Device, Memory}
use Rattle.report.specs.ClaimInput.{claim_read, max_claim}
use Rattle.report.specs.Input.{most_read}
use Rattle.report.specs.Output.{IsWrite}
use Rattle.report.specs.Reports.{Report, Reports}
use Rattle.report.specs.Run.{RunState}

-- the faults that are found before the second input is read, memory aside
abbrev pub IsBeforeSecond : RunFault → Type 0
IsBeforeSecond (Claim fault) = Unit {0}
IsBeforeSecond (TooBig inputs.Claim) = Unit {0}
IsBeforeSecond (Device inputs.Claim) = Unit {0}
IsBeforeSecond _ = ⊥

-- the faults that are found before the capture is read, memory aside
abbrev pub IsBeforeCapture : RunFault → Type 0
IsBeforeCapture (Claim fault) = Unit {0}
IsBeforeCapture (Certificate fault) = Unit {0}
IsBeforeCapture (Refutation fault) = Unit {0}
IsBeforeCapture (Times fault) = Unit {0}
IsBeforeCapture (TooBig input) = Unit {0}
IsBeforeCapture (Device inputs.Claim) = Unit {0}
IsBeforeCapture (Device inputs.Certificate) = Unit {0}
IsBeforeCapture (Device inputs.Refutation) = Unit {0}
IsBeforeCapture (Device inputs.Times) = Unit {0}
IsBeforeCapture _ = ⊥

-- But for a fault of the sink itself, nothing is written if a run is given up.
abbrev pub IsUnwrittenAt : RunFault → Option (List ℕ) → Option (List ℕ) → Type 0
IsUnwrittenAt fault before after = IsWrite fault ⊎ Keeps before after

-- The bytes, if they are known, say a claim.
abbrev pub HasClaim : Option (List ℕ) → Type 0
HasClaim known = IfSome known (λ bytes. IsOk (claim_read bytes))

-- The bytes, if they are known, begin with a lawful header of a capture.
abbrev pub HasLawfulHeader : Option (List ℕ) → Type 0
HasLawfulHeader known = IfSome known (λ bytes. IsOk (capture_of bytes))

-- What an engine promises for the report that its inputs' bytes call for, if at most `most` bytes
-- are taken of the second input, which is lawful if `HasSecond` holds of its bytes: its text and
-- answer, and each device's failures (`reports`); that nothing is written if it is given up
-- (`unwritten`); that the feeds of later inputs are as they were after an earlier refusal; and that
-- no more than the limits is taken of each input, a device too, of the claim one byte past its
-- limit only if the answer is that it's too big. Nor is a refusal reported as out of memory once
-- more was read: then the claim was lawful (`claim_memory`), the second input too
-- (`second_memory`), and so is the capture's header (`capture_memory`).
pub record Runs {T F : Type 0} (report : Option Report) (most : ℕ)
    (HasSecond : Option (List ℕ) → Type 0) (before after : RunState) (second second' : T)
    (capture capture' : F) (answer : Result Outcome RunFault) : Type 0 where
  pub reports : Reports report before after answer
  pub unwritten : IfErr answer (λ fault.
      IsUnwrittenAt fault before.sink.contents after.sink.contents)
  pub second_untouched : IfErr answer (λ fault. IsBeforeSecond fault → second' ≡ second)
  pub capture_untouched : IfErr answer (λ fault. IsBeforeCapture fault → capture' ≡ capture)
  pub claim_at_most : TakesAtMost (most_read inputs.Claim max_claim answer)
      before.claim after.claim
  pub second_at_most : TakesAtMost most before.second after.second
  pub capture_at_most : TakesAtMost most_taken before.capture after.capture
  pub claim_memory : answer ≡ Err Memory →
      ((second' ≡ second) × (capture' ≡ capture)) ⊎ HasClaim before.claim.remaining
  pub second_memory : answer ≡ Err Memory →
      (capture' ≡ capture) ⊎ HasSecond before.second.remaining
  pub capture_memory : answer ≡ Err Memory →
      (capture' ≡ capture) ⊎ HasLawfulHeader before.capture.remaining
