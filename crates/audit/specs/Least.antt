-- The least bound that a certificate carries, and its line.
--
-- Where the samples of a capture contradict each other, more than one bound may be the first with a
-- certificate. So the report is one on a bound that was found, and what that shows is said of the
-- evidence and of the bytes that give it.
use Rattle.std.specs.Prelude.{ℕ, pos, ◌<◌, ◌≤◌, Bool, true, false, Option, Some, None, Ok, IfSome}
use Rattle.audit.specs.Common.{ClaimData, max_bound_ns, SomeCourse, FindsLeastBound, IsCarried, piece_holding, with_bound, NoneOfFewIsAccepted, LeastCarried, LeastLine, NotAsked, NoneHolds, Holds}
use Rattle.audit.specs.Evidence.{EvidenceData, samples_in}

-- the line, if it is asked for: the bound that was found, and the piece of this many seconds that
-- holds the tick at which the search stops with a nanosecond less; there is none if it is, and no
-- bound was looked for
abbrev pub least_line_of : ClaimData → ℕ → Bool → Option (Option LeastCarried) → Option LeastLine
least_line_of claim step false found = Some NotAsked
least_line_of claim step true None = None
least_line_of claim step true (Some None) = Some NoneHolds
least_line_of claim step true (Some (Some least)) =
    Some (Holds least.bound_ns (piece_holding claim step (pos least.tick)))

-- What the bound shows of evidence: it is what the search answers. If some course of events fits
-- the exchanges, then under a lesser bound no certificate is accepted that may be written, and with
-- each wider one the search finds a certificate.
pub record IsLeastBoundOf (e : EvidenceData) (found : Option LeastCarried) : Type 0 where
  pub finds : FindsLeastBound (samples_in e) e.claim (Ok found)
  pub none_below : SomeCourse e.claim e.collection.exchanges → IfSome found (λ least. (m : ℕ) →
      m < least.bound_ns → NoneOfFewIsAccepted (samples_in e) (with_bound e.claim m))
  pub enough : SomeCourse e.claim e.collection.exchanges → IfSome found (λ least. (m : ℕ) →
      least.bound_ns ≤ m → m ≤ max_bound_ns → IsCarried (samples_in e) (with_bound e.claim m))
