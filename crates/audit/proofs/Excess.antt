-- An error beyond the bound: in nanoseconds, and of an accepted refutation.
use Rattle.audit.proofs.Common.{◌≡◌, ℕ, suc, ◌*◌, ◌<◌, pos, ◌*ℤ◌, unsigned_abs, unsigned_abs-mul, Bool, inl, ⊎_elim, List, length, get_or, Some, ap, ◌∙◌, arith, slice_get, mul-le-mul_right, cases_lt, length-map, slice_get-get_or, IsBytes, nanoseconds_per_second, IsFloor, ticks_per_second, Format, Record, IsCapture, RefutationData, ClaimData, AreGiven, Exchange, error_of, Course, FitsInWindows, IsAgainst, HasCourse, SharesRequests, frame_of, IsClaimText, HasCourseBeyond, IsBeyondNanoseconds, EvidenceData, IsEvidenceOf, CourseContests, ShowsContested, IsContestedOf, ReadingLaw}
use Rattle.intersection.specs.Fineness.{times_le}
use Rattle.audit.proofs.RecordFrames.{captured, each_record}
use Rattle.audit.proofs.ExchangeRecords.{in_place}

-- ---- sizes

-- n times a strict order
times_lt : (a b n : ℕ) → 0 < n → a < b → a * n < b * n
times_lt a b n some less = grind (arith, suc, mul-le-mul_right)

-- what is beyond a rounded bound in ticks is beyond the bound in nanoseconds
above_floor : (bound_ns bound size : ℕ) → IsFloor (bound_ns * ticks_per_second) nanoseconds_per_second bound
    → bound < size → bound_ns * ticks_per_second < size * nanoseconds_per_second
above_floor bound_ns bound size floor beyond = ⊎_elim (λ above. above)
    (λ within. absurd (let least = floor.greatest size within in omega (arith, least, beyond)))
    (cases_lt (bound_ns * ticks_per_second) (size * nanoseconds_per_second))

beyond_in_nanoseconds : (text : List ℕ) (claim : ClaimData) → IsClaimText text claim → (xs : List Exchange)
    → (beyond : HasCourseBeyond claim xs) → IsBeyondNanoseconds beyond.course claim.bound_ns
beyond_in_nanoseconds text claim said xs beyond =
    let n = beyond.course.fineness in
    let size = unsigned_abs beyond.error in
    let size_is = ap unsigned_abs beyond.error_is ∙ unsigned_abs-mul beyond.error (pos n) in
    let more : said.bound < size = grind (arith) in
    let less = times_lt (claim.bound_ns * ticks_per_second) (size * nanoseconds_per_second) n
    beyond.fits.fits.some_fineness (above_floor claim.bound_ns said.bound size said.bound_is more) in
    rw size_is (omega (arith, less))

-- what is read with a course like that is contested
pub contested : ReadingLaw → CourseContests
contested reading text bytes e all is beyond =
    let read = reading text bytes e all is in
    record {
      claim = e.claim;
      exchanges = e.collection.exchanges;
      said = read.said;
      none_is_missing = read.none_is_missing;
      beyond = beyond;
      beyond_nanoseconds = beyond_in_nanoseconds text e.claim read.said.claim_is e.collection.exchanges beyond;
    }

-- ---- refutations

-- a course that is observed at a refutation's reading, off by its error
observed_beyond : (claim : ClaimData) (xs : List Exchange) (r : RefutationData) → IsAgainst claim r
    → (course : Course) → FitsInWindows claim xs course → SharesRequests xs course
    → course.observation.reading ≡ (pos r.reading *ℤ pos course.fineness)
    → error_of course.observation ≡ (r.error *ℤ pos course.fineness) → HasCourseBeyond claim xs
observed_beyond claim xs r against course fits shares reading error =
    let n = course.fineness in
    let span = against.in_span in
    record {
      course = course;
      fits = fits;
      shares_requests = shares;
      in_span = rw reading (
        times_le claim.first (pos r.reading) n span.0,
        times_le (pos r.reading) claim.last n span.1,
      );
      error = r.error;
      error_is = error;
      beyond = against.beyond_bound;
    }

-- the course of an accepted refutation
pub course_beyond : (claim : ClaimData) (xs : List Exchange) (r : RefutationData) → IsAgainst claim r
    → HasCourse claim xs r → HasCourseBeyond claim xs
course_beyond claim xs r against (course, of) = grind (arith, observed_beyond, inl)

-- one that stands has a course beyond the bound
standing_beyond : (drift : Bool) (r : RefutationData) (e : EvidenceData) → IsContestedOf drift r e
    → HasCourseBeyond e.claim e.collection.exchanges
standing_beyond x0 r e stands = grind (arith, course_beyond, observed_beyond)

-- which the bytes show that give the evidence
pub contests : CourseContests → (drift : Bool) (r : RefutationData) (e : EvidenceData) → IsContestedOf drift r e
    → (b f : List ℕ) → IsEvidenceOf b f e → ShowsContested b f
contests contested drift r e stands b f is bytes = grind (arith, standing_beyond)

-- ---- the records of a capture

-- a source may give the records of a capture
pub given_records : (bytes : List ℕ) (format : Format) (records : List Record) → IsBytes bytes
    → IsCapture bytes format records → AreGiven records
given_records bytes format records all capture =
    let place = in_place bytes format records all capture in
    let at : (k : ℕ) (d : Record) → k < length records → slice_get records k ≡ Some (get_or records k d) =
    λ k d below. slice_get-get_or records k d below in
    record {
      few = (let most = (captured bytes format records capture).few in
          let sized = length-map records frame_of in omega (arith, most, sized));
      each = λ k d below. record {
        head = (each_record format.unit records capture.are_records k (get_or records k d) (at k d below)).1.lawful;
        bytes = place.bytes k (get_or records k d) (at k d below);
      };
      numbered = λ k d below.
          ap (slice_get records) (place.numbered k (get_or records k d) (at k d below)) ∙ at k d below;
    }
