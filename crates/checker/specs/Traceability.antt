-- What a verdict says about every course of events.
use Rattle.std.specs.Prelude.{◌≡◌, ℕ, ◌*◌, ◌≤◌, ℤ, pos, ◌*ℤ◌, ◌≤ℤ◌, ◌⊎◌, unsigned_abs, List, [], map, Some, Ok, slice_get, IsSomeAnd}
use Rattle.checker.specs.Common.{nanoseconds_per_second, ticks_per_second, PieceData, CertificateData, ClaimData, HullHoldsFraction, Hull, Exchange, error_of, IsInWindow, sample_of, Sample, piece_hull, Part, Stretch}
use Rattle.checker.specs.Course.{Course, Fits}
use Rattle.checker.specs.PieceFit.{FitsPiece}
use Rattle.checker.specs.Stretch.{stretch_of, stretches_of}
use Rattle.checker.specs.Verdict.{parts_after, hull_fault, verdict_of}
use Rattle.checker.specs.declared.verdict.Verdict.{Verdict}
use Rattle.checker.specs.declared.verdict.Verdict.TheVariants.{Yes, No}
use Rattle.checker.specs.declared.verdict.Why.{Why}
use Rattle.checker.specs.declared.verdict.Why.TheVariants.{Contradiction, Exceeds}

-- the samples of exchanges, with the allowance of a claim
abbrev pub samples_of : List Exchange → ClaimData → List Sample
samples_of xs claim = map (λ x. sample_of x claim.reading) xs

-- the clock's reading, when it is observed, lies in a stretch
abbrev pub IsObservedIn : Course → ℤ → ℤ → Type 0
IsObservedIn course begin end = IsInWindow course.fineness begin end course.observation.reading

-- the clock's error, when it is observed, is no more than a bound to either side
abbrev pub IsWithin : Course → ℤ → Type 0
IsWithin course bound =
    pos (unsigned_abs (error_of course.observation)) ≤ℤ (bound *ℤ pos course.fineness)

-- the same of a bound in nanoseconds
abbrev pub IsWithinNanoseconds : Course → ℕ → Type 0
IsWithinNanoseconds course bound_ns =
    (nanoseconds_per_second * unsigned_abs (error_of course.observation))
    ≤ (course.fineness * (bound_ns * ticks_per_second))

-- the clock's error, when it is observed, lies in a hull: an unbounded one says nothing, and an
-- empty one that there is no such course
abbrev pub IsInHull : Course → Hull → Type 0
IsInHull course hull = HullHoldsFraction hull (error_of course.observation) course.fineness

-- in every course that fits exchanges with these samples, the error is within the claimed bound at
-- every moment whose reading lies in the claimed span
abbrev pub IsTraceable : ClaimData → List Sample → Type 0
IsTraceable claim samples = (xs : List Exchange) (course : Course) → samples ≡ samples_of xs claim
    → Fits claim xs course → IsObservedIn course claim.first claim.last
    → IsWithin course claim.bound

-- in no course that fits exchanges with these samples does the clock show a reading of the stretch
abbrev pub IsContradicted : ClaimData → List Sample → Stretch → Type 0
IsContradicted claim samples stretch = (xs : List Exchange) (course : Course)
    → samples ≡ samples_of xs claim → Fits claim xs course
    → ¬ (IsObservedIn course stretch.begin stretch.end)

-- the same piece by piece, of every course that fits what a piece of the certificate names: the
-- error is within the claimed bound at every moment whose reading lies in the piece
abbrev pub IsTraceableByPieces : ClaimData → List Sample → CertificateData → Type 0
IsTraceableByPieces claim samples certificate =
    (xs : List Exchange) (k : ℕ) (piece : PieceData) (course : Course)
    → samples ≡ samples_of xs claim → slice_get certificate.pieces k ≡ Some piece
    → FitsPiece claim xs piece.entries course
    → let stretch = stretch_of claim certificate k piece in
    IsObservedIn course stretch.begin stretch.end → IsWithin course claim.bound

-- in every course that fits exchanges with these samples, the error lies in the hull at every
-- moment whose reading lies in the stretch
abbrev pub HoldsError : ClaimData → List Sample → Stretch → Hull → Type 0
HoldsError claim samples stretch hull = (xs : List Exchange) (course : Course)
    → samples ≡ samples_of xs claim → Fits claim xs course
    → IsObservedIn course stretch.begin stretch.end → IsInHull course hull

-- the same of every course that fits what these entries name
abbrev pub HoldsErrorOfPiece : ClaimData → List Sample → List (ℕ × ℕ) → Stretch → Hull → Type 0
HoldsErrorOfPiece claim samples entries stretch hull = (xs : List Exchange) (course : Course)
    → samples ≡ samples_of xs claim → FitsPiece claim xs entries course
    → IsObservedIn course stretch.begin stretch.end → IsInHull course hull

-- a piece of a certificate has this hull, by what its entries say, and the hull holds the error
pub record HasHull (claim : ClaimData) (samples : List Sample) (certificate : CertificateData)
    (k : ℕ) (hull : Hull) : Type 0 where
  pub piece : PieceData
  pub stands : slice_get certificate.pieces k ≡ Some piece
  pub parts : List Part
  pub said : parts_after samples (stretch_of claim certificate k piece) claim.drift_ppb []
      piece.entries ≡ Ok parts
  pub is_theirs : piece_hull claim.groups claim.false_max parts ≡ hull
  pub holds : HoldsErrorOfPiece claim samples piece.entries
      (stretch_of claim certificate k piece) hull

-- a reason that a hull gives: it is empty, or not inside the bound
abbrev pub IsOfHull : Why → Type 0
IsOfHull why = (why ≡ Contradiction) ⊎ (why ≡ Exceeds)

-- piece k has a hull that is refused for this reason, and holds the error all the same
abbrev pub IsRefusedByHull : ClaimData → List Sample → CertificateData → ℕ → Why → Type 0
IsRefusedByHull claim samples certificate k why =
    (hull : Hull) × (hull_fault claim.bound hull ≡ Some why)
    × HasHull claim samples certificate k hull

-- the verdict on a certificate, and what it says about every course
pub record IsVerdictOn (claim : ClaimData) (samples : List Sample) (certificate : CertificateData)
    (verdict : Verdict) : Type 0 where
  pub exact : verdict ≡ verdict_of samples claim certificate
  -- in every course of events that fits exchanges with these samples, the error is within the bound
  -- over the span
  pub yes : verdict ≡ Yes → IsTraceable claim samples
  -- the same of each piece by itself, in every course that fits what its entries name
  pub by_pieces : verdict ≡ Yes → IsTraceableByPieces claim samples certificate
  -- in no course that fits exchanges with these samples does the clock show a reading of the piece
  pub contradiction : (k : ℕ) → verdict ≡ No k Contradiction →
      IsSomeAnd (slice_get (stretches_of claim certificate) k) (IsContradicted claim samples)
  -- if a hull is refused, the error lies in it, in every course that fits what the entries of its
  -- piece name
  pub held : (k : ℕ) (why : Why) → verdict ≡ No k why → IsOfHull why →
      IsRefusedByHull claim samples certificate k why
