-- What is observed in a course that fits is observed in the lowest course of what it was: its error at
-- its reading is compatible with all marks.
use Rattle.feasibility.proofs.Common.{◌≤◌, ℕ, ℤ, Bool, List, length, refl, All, ClaimData, IsLawful as IsLawfulExchange, Exchange, Mark, Fits, FitsInWindows, lowest_course, low_marks, arith}
use Rattle.claim_file.specs.Claim.{IsLawful}
use Rattle.feasibility.specs.Stamps.{IsObservable}
use Rattle.feasibility.proofs.Converse.{agree, low_agrees, high_agrees, observed_low, observed_high}
use Rattle.feasibility.proofs.LowestCourse.{Needs, lowest_fits}
use Rattle.feasibility.proofs.LowestMarks.{first_is_met}

module _ (claim : ClaimData) (xs : List Exchange) (is_false : ℕ → Bool) (reading error : ℤ) where
  pub to_windows : IsLawful claim → All (IsLawfulExchange (length claim.servers)) xs
      → IsObservable (Fits claim xs) is_false reading error
      → IsObservable (FitsInWindows claim xs) is_false reading error
  to_windows lawful each seen =
      let slow : claim.drift_ppb ≤ 500000000 = lawful.drift_in_range in
      let wide = seen.course in
      let mark : Mark = record { place = reading; error = error } in
      let low = observed_low wide.fineness mark wide.observation seen.observed seen.off in
      let high = observed_high wide.fineness mark wide.observation seen.observed seen.off in
      let needs : Needs claim wide.is_false mark xs = record {
        lawful = lawful;
        each = each;
        agree = agree slow seen.fits wide.is_false (λ server true'. true');
        first_agrees = low_agrees slow seen.fits wide.is_false (λ server true'. true') mark low high;
      } in
      record {
        course = lowest_course claim wide.is_false mark reading xs;
        fits = lowest_fits needs reading seen.fits.few_false;
        just_these_false = seen.just_these_false;
        observed = refl;
        off = first_is_met claim.drift_ppb mark (low_marks claim.reading wide.is_false xs)
            (high_agrees slow seen.fits wide.is_false (λ server true'. true') mark low high);
      }

  pub from_windows : IsObservable (FitsInWindows claim xs) is_false reading error
      → IsObservable (Fits claim xs) is_false reading error
  from_windows seen = grind arith
