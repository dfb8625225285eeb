-- The whole theorem from bytes for a yes by covers, in relations alone.
use Rattle.std.specs.Prelude.{◌≡◌, ℕ, List, Ok}
use Rattle.audit.specs.Common.{IsBytes, BoundSpan, ClaimData, Collection, Course, CoverCertificateData, Exchange, FitsNamed, IsAcceptedByCovers, IsNamed, IsObservedIn, IsWithinNanoseconds, claim_read}
use Rattle.audit.specs.CaptureInput.{capture_read}
use Rattle.audit.specs.Headline.{AreSaid}

-- The bytes say a claim and exchanges for which this holds, with some conflicts and cases. Each
-- conflict is one, and at each reading of the span, whichever few groups are wrong that have an end
-- of each conflict, entries admit some error and none beyond the bound. In every course of events
-- that fits what is named of the exchanges, the error is within the bound at every moment whose
-- reading lies in the span.
pub record IsShownByCovers (claim_bytes capture_bytes : List ℕ) : Type 0 where
  pub claim : ClaimData
  pub exchanges : List Exchange
  pub said : AreSaid claim_bytes capture_bytes claim exchanges
  pub certificate : CoverCertificateData
  pub bounds : BoundSpan claim exchanges certificate
  pub within : (course : Course)
      → FitsNamed claim exchanges (IsNamed claim certificate course) course
      → IsObservedIn course claim.first claim.last → IsWithinNanoseconds course claim.bound_ns

-- if the bytes of a claim and of a capture are read, and some certificate by covers is accepted,
-- that is shown for them; a byte is below 256
abbrev pub ShowsHeadlineByCovers : Type 0
ShowsHeadlineByCovers = (claim_bytes capture_bytes : List ℕ) (claim : ClaimData)
    (collection : Collection) (certificate : CoverCertificateData) → IsBytes capture_bytes
    → claim_read claim_bytes ≡ Ok claim → capture_read claim capture_bytes ≡ Ok collection
    → IsAcceptedByCovers claim collection.exchanges certificate
    → IsShownByCovers claim_bytes capture_bytes
