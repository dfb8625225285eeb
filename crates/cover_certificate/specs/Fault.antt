-- Why a certificate by covers is refused.
use Rattle.std.specs.Prelude.{◌≡◌, ◌⊎◌, ℕ, List, Option, Some, None, Result, MatchResult}
use Rattle.json.specs.Token.{Token}
use Rattle.json_text.specs.Step as step
use Rattle.cover_certificate.specs.declared.fault.CoverFault.{CoverFault}
use Rattle.cover_certificate.specs.declared.fault.CoverFault.TheVariants.{Json, Top, TooManyConflicts, Conflicts, TooManyCases, CaseShape, TooManyPieces, Shape, TooManyEntries, Memory}

-- the number of each fault
abbrev pub number_of : CoverFault → ℕ
number_of Json = 1
number_of Top = 2
number_of TooManyConflicts = 3
number_of Conflicts = 4
number_of TooManyCases = 5
number_of (CaseShape case) = 6
number_of TooManyPieces = 7
number_of (Shape piece) = 8
number_of (TooManyEntries piece) = 9
number_of Memory = 10

-- the answer is the one that is defined, value or fault, or Memory
abbrev pub Answers :
    {A B : Type 0} → Result A CoverFault → (A → B) → Result B CoverFault → Type 0
Answers answer shown defined = step.Answers Memory answer shown defined

-- what was read is what is defined, and these tokens follow it; a fault is Memory, or says that
-- there is no JSON text
abbrev pub ReadsOn : {A B : Type 0} →
    Result A CoverFault → (A → B) → Option (B × List Token) → List Token → Type 0
ReadsOn answer shown defined rest =
    MatchResult answer (λ value. defined ≡ Some (shown value, rest))
    (λ fault. (fault ≡ Memory) ⊎ ((fault ≡ Json) × (defined ≡ None)))
