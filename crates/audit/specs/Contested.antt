-- What is shown against a claim from bytes, in relations alone.
use Rattle.std.specs.Prelude.{◌≡◌, ℕ, ◌*◌, ◌<◌, ℤ, pos, ◌*ℤ◌, ◌<ℤ◌, unsigned_abs, true, List, length, Ok}
use Rattle.audit.specs.Common.{IsBytes, nanoseconds_per_second, ticks_per_second, RefutationData, AreLawful, ClaimData, IsLawful, Exchange, claim_read, error_of, IsInWindow, Course, FitsInWindows, IsWithin, IsWithinNanoseconds, SharesRequests, is_refuted}
use Rattle.audit.specs.Evidence.{EvidenceData, IsEvidenceOf}
use Rattle.audit.specs.Exchanged.{IsExchangeIn, IsAmong}
use Rattle.audit.specs.Headline.{AreSaid, IsShown, ShowsHeadline}
use Rattle.audit.specs.HeadlineByCovers.{IsShownByCovers, ShowsHeadlineByCovers}

-- the clock's error, when it is observed, is more than a bound in nanoseconds to one side
abbrev pub IsBeyondNanoseconds : Course → ℕ → Type 0
IsBeyondNanoseconds course bound_ns =
    (course.fineness * (bound_ns * ticks_per_second))
    < (nanoseconds_per_second * unsigned_abs (error_of course.observation))

-- Some course of events fits a claim and exchanges, and those of one request share its moment. Its
-- observation is at a reading of the span, and its error there is a whole number of ticks, beyond
-- the bound.
pub record HasCourseBeyond (claim : ClaimData) (xs : List Exchange) : Type 0 where
  pub course : Course
  pub fits : FitsInWindows claim xs course
  pub shares_requests : SharesRequests xs course
  pub in_span : IsInWindow course.fineness claim.first claim.last course.observation.reading
  pub error : ℤ
  pub error_is : error_of course.observation ≡ (error *ℤ pos course.fineness)
  pub beyond : claim.bound <ℤ pos (unsigned_abs error)

-- The bytes say a claim and exchanges, and none in the frames is missing. Some course of events
-- fits the claim and all of them, in which each request packet leaves at one moment. The client's
-- clock is observed in it at a reading of the span, and its error there is beyond the bound, in
-- ticks and in nanoseconds.
pub record IsContestedShown (claim_bytes capture_bytes : List ℕ) : Type 0 where
  pub claim : ClaimData
  pub exchanges : List Exchange
  pub said : AreSaid claim_bytes capture_bytes claim exchanges
  pub none_is_missing : (x : Exchange) → IsExchangeIn claim said.unit said.frames x
      → IsAmong exchanges x
  pub beyond : HasCourseBeyond claim exchanges
  pub beyond_nanoseconds : IsBeyondNanoseconds beyond.course claim.bound_ns

-- the same of bytes that are below 256
abbrev pub ShowsContested : List ℕ → List ℕ → Type 0
ShowsContested claim_bytes capture_bytes =
    IsBytes capture_bytes → IsContestedShown claim_bytes capture_bytes

-- if the bytes of a claim and of a capture give evidence, and there is a course like that for it,
-- it is shown for them; a byte is below 256
abbrev pub CourseContests : Type 0
CourseContests = (claim capture : List ℕ) (e : EvidenceData) → IsBytes capture
    → IsEvidenceOf claim capture e → HasCourseBeyond e.claim e.collection.exchanges
    → IsContestedShown claim capture

-- the same if some refutation is accepted
abbrev pub RefutationContests : Type 0
RefutationContests = (claim capture : List ℕ) (e : EvidenceData) (refutation : RefutationData)
    → IsBytes capture → IsEvidenceOf claim capture e
    → is_refuted e.claim e.collection.exchanges refutation ≡ true → IsContestedShown claim capture

-- no claim and no capture are both shown and contested
abbrev pub NeverBoth : Type 0
NeverBoth = (claim_bytes capture_bytes : List ℕ) → IsShown claim_bytes capture_bytes
    → ¬ (IsContestedShown claim_bytes capture_bytes)

-- none are both shown by covers and contested
abbrev pub NeverBothByCovers : Type 0
NeverBothByCovers = (claim_bytes capture_bytes : List ℕ)
    → IsShownByCovers claim_bytes capture_bytes → ¬ (IsContestedShown claim_bytes capture_bytes)

-- what is within the bound in ticks of a claim that was read, is within its bound in nanoseconds
abbrev pub GivesNanoseconds : Type 0
GivesNanoseconds = (bytes : List ℕ) (claim : ClaimData) (course : Course)
    → claim_read bytes ≡ Ok claim → IsWithin course claim.bound
    → IsWithinNanoseconds course claim.bound_ns

-- What is read of the bytes of a claim and of a capture is what they say, with all exchanges in the
-- frames, and keeps its limits.
pub record AreRead (text capture : List ℕ) (claim : ClaimData) (xs : List Exchange) : Type 0 where
  pub said : AreSaid text capture claim xs
  pub none_is_missing : (x : Exchange) → IsExchangeIn claim said.unit said.frames x → IsAmong xs x
  pub lawful : IsLawful claim
  pub kept : AreLawful (length claim.servers) xs

abbrev pub ReadingLaw : Type 0
ReadingLaw = (claim capture : List ℕ) (e : EvidenceData) → IsBytes capture
    → IsEvidenceOf claim capture e → AreRead claim capture e.claim e.collection.exchanges

-- the laws on bytes that tell what an answer shows of them
pub record BytesLaws : Type 0 where
  pub nanoseconds : GivesNanoseconds
  pub headline : ShowsHeadline
  pub by_covers : ShowsHeadlineByCovers
  pub contested : CourseContests
