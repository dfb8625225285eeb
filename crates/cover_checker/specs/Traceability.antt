-- What a verdict on a certificate by covers says about every course of events.
use Rattle.std.specs.Prelude.{◌≡◌, ◌↔◌, ℕ, ◌⊎◌, pos, List, Some, slice_get}
use Rattle.cover_checker.specs.Common.{CaseData, ClaimData, Course, CoverCertificateData, Exchange, Fits, IsObservedIn, IsWithin, PieceData, begin_of}
use Rattle.cover_checker.specs.Acceptance.{IsAccepted}
use Rattle.cover_checker.specs.NamedFit.{FitsNamed}
use Rattle.cover_checker.specs.Verdict.{IsVerdict}
use Rattle.cover_checker.specs.VerdictTest.{verdict_of}
use Rattle.cover_checker.specs.declared.verdict.CoverVerdict.{CoverVerdict}
use Rattle.cover_checker.specs.declared.verdict.CoverVerdict.TheVariants.{Yes}

-- an exchange is one of a pair
abbrev pub IsOfPair : ℕ → ℕ × ℕ → Type 0
IsOfPair k pair = (k ≡ pair.0) ⊎ (k ≡ pair.1)

-- one that a conflict names
abbrev pub IsInConflict : CoverCertificateData → ℕ → Type 0
IsInConflict certificate k = (c : ℕ) × (pair : ℕ × ℕ)
    × (slice_get certificate.conflicts c ≡ Some pair) × IsOfPair k pair

-- one that an entry names, in a case's piece that holds what the clock reads when it is observed
pub record IsInPiece (claim : ClaimData) (certificate : CoverCertificateData) (course : Course)
    (k : ℕ) : Type 0 where
  pub c : ℕ
  pub case : CaseData
  pub case_stands : slice_get certificate.cases c ≡ Some case
  pub p : ℕ
  pub piece : PieceData
  pub piece_stands : slice_get case.pieces p ≡ Some piece
  pub observed : IsObservedIn course (begin_of claim.first case.pieces p) (pos piece.upto)
  pub e : ℕ
  pub entry : ℕ × ℕ
  pub entry_stands : slice_get piece.entries e ≡ Some entry
  pub is_of_it : IsOfPair k entry

-- the exchanges that count at the observed reading: those of the conflicts, and of each case those
-- of the pieces that hold it
abbrev pub IsNamed : ClaimData → CoverCertificateData → Course → ℕ → Type 0
IsNamed claim certificate course k =
    IsInConflict certificate k ⊎ IsInPiece claim certificate course k

-- in every course that fits the exchanges named, the error is within the bound at every moment
-- whose reading lies in the span
abbrev pub IsTraceableByCovers : ClaimData → List Exchange → CoverCertificateData → Type 0
IsTraceableByCovers claim xs certificate = (course : Course)
    → FitsNamed claim xs (IsNamed claim certificate course) course
    → IsObservedIn course claim.first claim.last → IsWithin course claim.bound

-- so it is in every course that fits all exchanges
abbrev pub IsTraceable : ClaimData → List Exchange → Type 0
IsTraceable claim xs = (course : Course) → Fits claim xs course
    → IsObservedIn course claim.first claim.last → IsWithin course claim.bound

-- the verdict, and what a yes says
pub record IsVerdictOn (claim : ClaimData) (xs : List Exchange) (certificate : CoverCertificateData)
    (verdict : CoverVerdict) : Type 0 where
  pub is : IsVerdict claim xs certificate verdict
  pub exact : verdict ≡ verdict_of claim xs certificate
  pub accepted : (verdict ≡ Yes) ↔ IsAccepted claim xs certificate
  pub by_covers : verdict ≡ Yes → IsTraceableByCovers claim xs certificate
  pub yes : verdict ≡ Yes → IsTraceable claim xs
