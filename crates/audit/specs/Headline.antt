-- The whole theorem from bytes, in relations alone.
use Rattle.std.specs.Prelude.{◌≡◌, ℕ, ◌-◌, ◌*◌, ◌≤◌, ℤ, pos, ◌+ℤ◌, ◌-ℤ◌, ◌*ℤ◌, ◌≤ℤ◌, ◌<ℤ◌, unsigned_abs, Bool, false, List, length, count_by, Some, Ok, slice_get, slice_index}
use Rattle.audit.specs.Common.{int_max, range_with_len, IsBytes, CertificateData, Unit as TimeUnit, Endian, ClaimData, Collection, Exchange, claim_read, IsInWindow, billion, Course, FitsPiece, OfEachEntry, IsWithinNanoseconds, samples_of, verdict_of}
use Rattle.checker.specs.declared.verdict.Verdict.TheVariants.{Yes}
use Rattle.audit.specs.CaptureInput.{capture_read}
use Rattle.audit.specs.Captured.{CapturedFrame, IsCaptureOf}
use Rattle.audit.specs.Claimed.{IsClaimText, IsWithinLimits}
use Rattle.audit.specs.Exchanged.{IsExchangeIn}

-- The client's error may change by this many ticks between a reading in low..high and one in
-- begin..end: by what the claimed drift allows over the farthest distance, rounded up to a tick.
abbrev pub MayChangeBy : ClaimData → ℤ → ℤ → ℤ → ℤ → ℤ → Type 0
MayChangeBy claim low high begin end ticks = ((ticks -ℤ pos 1) *ℤ pos (billion - claim.drift_ppb))
    <ℤ pos (claim.drift_ppb * unsigned_abs (int_max (end -ℤ low) (high -ℤ begin)))

-- Entries admit an error, in ticks, over a stretch of readings: at most `false_max` groups are
-- wrong, and each entry of another group leaves room for the error. It isn't below what the request
-- says of it nor above what the reply says, but for what it may change from there to the stretch.
pub record Admit (claim : ClaimData) (xs : List Exchange) (entries : List (ℕ × ℕ))
    (begin end error : ℤ) : Type 0 where
  pub is_wrong : ℕ → Bool
  pub few : count_by is_wrong (range_with_len 0 (length claim.groups)) ≤ claim.false_max
  pub room : OfEachEntry xs entries (λ a x b y. is_wrong (slice_index claim.groups x.server) ≡ false
      → MayChangeBy claim (x.t1_low -ℤ claim.reading) (x.t1_high +ℤ claim.reading) begin end
      (x.t1_low -ℤ claim.reading -ℤ x.t2 -ℤ x.distance -ℤ error)
      × MayChangeBy claim (y.t4_low -ℤ claim.reading) (y.t4_high +ℤ claim.reading) begin end
      (error -ℤ (y.t4_high +ℤ claim.reading -ℤ y.t3 +ℤ y.distance)))

-- The claim's bytes are the text of this claim, which keeps its limits, and the capture's bytes are
-- a capture of frames. These are exchanges in the frames.
pub record AreSaid (text capture : List ℕ) (claim : ClaimData) (xs : List Exchange) : Type 0 where
  pub order : Endian
  pub unit : TimeUnit
  pub frames : List CapturedFrame
  pub claim_is : IsClaimText text claim
  pub in_limits : IsWithinLimits claim
  pub capture_is : IsCaptureOf capture order unit frames
  pub exchanges_are : (k : ℕ) (x : Exchange) → slice_get xs k ≡ Some x
      → IsExchangeIn claim unit frames x

-- The bytes say a claim and exchanges for which this holds: for each reading of the span, a whole
-- number of 1/n tick, there are entries, and a stretch that holds the reading, over which they
-- admit some error and none beyond the bound. In every course of events that fits what they name of
-- the exchanges, and in which the client's clock reads that, its error is within the bound.
pub record IsShown (claim_bytes capture_bytes : List ℕ) : Type 0 where
  pub claim : ClaimData
  pub exchanges : List Exchange
  pub said : AreSaid claim_bytes capture_bytes claim exchanges
  pub within : (n : ℕ) (reading : ℤ) → IsInWindow n claim.first claim.last reading
      → (entries : List (ℕ × ℕ)) × (begin : ℤ) × (end : ℤ) × IsInWindow n begin end reading
      × ((error : ℤ) × Admit claim exchanges entries begin end error)
      × ((e : ℤ) → Admit claim exchanges entries begin end e → pos (unsigned_abs e) ≤ℤ claim.bound)
      × ((course : Course) → course.fineness ≡ n → course.observation.reading ≡ reading
      → FitsPiece claim exchanges entries course → IsWithinNanoseconds course claim.bound_ns)

-- if the bytes of a claim and of a capture are read, and the verdict on some certificate is yes,
-- that is shown for them; a byte is below 256
abbrev pub ShowsHeadline : Type 0
ShowsHeadline = (claim_bytes capture_bytes : List ℕ) (claim : ClaimData) (collection : Collection)
    (certificate : CertificateData) → IsBytes capture_bytes → claim_read claim_bytes ≡ Ok claim
    → capture_read claim capture_bytes ≡ Ok collection
    → verdict_of (samples_of collection.exchanges claim) claim certificate ≡ Yes
    → IsShown claim_bytes capture_bytes
