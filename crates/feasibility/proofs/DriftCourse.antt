-- The course that an accepted refutation stands for, and what it does to the claim.
use Rattle.feasibility.proofs.Common.{◌≡◌, ℕ, ◌<◌, ◌*◌, ℤ, pos, ◌*ℤ◌, ◌≤ℤ◌, ◌<ℤ◌, unsigned_abs, List, length, refl, arith, All, AllPairs, ints, unsigned_abs-mul, RefutationData, ClaimData, times_le, IsLawful as IsLawfulExchange, SameRequest, Exchange, Course, Fits, FitsInWindows, is_liar, IsAgainst, IsObservedIn, IsWithin, IsTraceable, samples_of, low_marks, lowest_course, mark_of, IsRefutedWithDrift, IsObservedOff, Shows, HasDriftCourse, le_from_times}
use Rattle.claim_file.specs.Claim.{IsLawful}
use Rattle.feasibility.proofs.LowestMarks.{first_is_met}
use Rattle.feasibility.proofs.LowestCourse.{Needs, lowest_fits, lowest_shares}

-- ---- the claim is broken

pub beyond : (bound error found : ℤ) (n : ℕ) → 0 < n → bound <ℤ pos (unsigned_abs error)
    → found ≡ error *ℤ pos n → pos (unsigned_abs found) ≤ℤ (bound *ℤ pos n) → ⊥
beyond bound error found n some far off within =
    let size : unsigned_abs found ≡ unsigned_abs error * n = rw off (unsigned_abs-mul error (pos n)) in
    let scaled : (pos (unsigned_abs error) *ℤ pos n) ≤ℤ (bound *ℤ pos n) = omega (arith, ints) in
    omega (arith, ints, le_from_times (pos (unsigned_abs error)) bound n some scaled)

module _ (claim : ClaimData) (r : RefutationData) (course : Course) (against : IsAgainst claim r)
    (observed : IsObservedOff r course) where
  pub observed_in_span : IsObservedIn course claim.first claim.last
  observed_in_span =
      grind (
        arith,
        against.in_span,
        times_le claim.first (pos r.reading) course.fineness (against.in_span).0,
        times_le
            (pos r.reading) claim.last course.fineness (against.in_span).1,
      )

  pub observed_beyond : (xs : List Exchange) → Fits claim xs course → IsWithin course claim.bound → ⊥
  observed_beyond xs fits within = grind (arith, ints)

-- ---- the course

module _ (claim : ClaimData) (xs : List Exchange) (r : RefutationData) (lawful : IsLawful claim)
    (each : All (IsLawfulExchange (length claim.servers)) xs) (refuted : IsRefutedWithDrift claim xs r) where
  abbrev pub course : Course
  course = lowest_course claim (is_liar r.liars) (mark_of r) (pos r.reading) xs

  course_fits : FitsInWindows claim xs course
  course_fits =
      let needs : Needs claim (is_liar r.liars) (mark_of r) xs = record {
        lawful = lawful;
        each = each;
        agree = refuted.agree;
        first_agrees = refuted.reading_low;
      } in
      lowest_fits needs (pos r.reading) refuted.against.few_false

  observed_off : IsObservedOff r course
  observed_off =
      grind (
        arith,
        first_is_met claim.drift_ppb (mark_of r) (low_marks claim.reading (is_liar r.liars) xs)
            refuted.reading_high,
      )

  pub has_course : AllPairs SameRequest xs → HasDriftCourse claim xs r
  has_course agree = record {
    course = course;
    fits = course_fits;
    just_liars_false = λ server. refl;
    shares_requests = lowest_shares claim (is_liar r.liars) (mark_of r) (pos r.reading) xs agree;
    observed = observed_off;
  }

  -- so nothing is traceable to the samples of these exchanges
  pub not_traceable : IsTraceable claim (samples_of xs claim) → ⊥
  not_traceable traceable =
      let in_span = observed_in_span claim r course refuted.against observed_off in
      observed_beyond claim r course refuted.against observed_off xs course_fits.fits
      (traceable xs course refl course_fits.fits in_span)

  pub shown : Shows claim xs r course
  shown = record { fits = course_fits.fits; others_true = λ server true'. true'; observed = observed_off }

pub ruleset observed_course = (observed_in_span, observed_beyond)
