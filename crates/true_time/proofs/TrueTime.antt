-- True time, by the hull of the error.
use Rattle.true_time.proofs.Common.{◌≡◌, ℕ, ℤ, pos, ◌*ℤ◌, ◌-ℤ◌, ◌≤ℤ◌, List, arith, ints, refl, ap, sym, AreSamplesOf, Bounded, ClaimData, Course, Empty, Fits, HoldsError, HoldsTrueTime, Hull, IsLawful, IsObservedIn, IsThen, ReadingData, Sample, Unbounded, best_hull, earliest, hull_of, latest, stretch_over}
use Rattle.feasibility.proofs.Scaling.{times-sub}
use Rattle.span_cover.specs.declared.stretch.Stretch.{Stretch}
use Rattle.checker.specs.Traceability.{IsInHull}

-- ticks of one clock and of its error, in parts of a tick
then_low : (n : ℕ) (begin high reading time : ℤ) → (begin *ℤ pos n) ≤ℤ reading
    → (reading -ℤ time) ≤ℤ (high *ℤ pos n) → ((begin -ℤ high) *ℤ pos n) ≤ℤ time
then_low n begin high reading time shown off =
    let apart = times-sub (begin -ℤ high) begin high n refl in omega (arith, ints, apart)

then_high : (n : ℕ) (end low reading time : ℤ) → reading ≤ℤ (end *ℤ pos n)
    → (low *ℤ pos n) ≤ℤ (reading -ℤ time) → time ≤ℤ ((end -ℤ low) *ℤ pos n)
then_high n end low reading time shown off =
    let apart = times-sub (end -ℤ low) end low n refl in omega (arith, ints, apart)

module _ (course : Course) (r : ReadingData) (shown : IsObservedIn course (pos r.begin) (pos r.end)) where
  pub then : (hull : Hull) → IsInHull course hull → IsThen course r hull
  then Unbounded within = tt
  then Empty within = within
  then (Bounded low high) within = (
    then_low course.fineness (pos r.begin) high course.observation.reading course.observation.time shown.0 within.1,
    then_high course.fineness (pos r.end) low course.observation.reading course.observation.time shown.1 within.0,
  )

-- the error lies in the hull, and so true time between the two
pub true_time_held : ((claim : ClaimData) (samples : List Sample) (stretch : Stretch) → IsLawful claim
    → AreSamplesOf claim samples → HoldsError claim samples stretch (best_hull samples claim stretch))
    → (claim : ClaimData) (samples : List Sample) (r : ReadingData) → IsLawful claim → AreSamplesOf claim samples
    → HoldsTrueTime claim samples r (hull_of samples claim r)
true_time_held held claim samples r lawful of_claim xs course same fits shown =
    then course r shown (hull_of samples claim r)
    (held claim samples (stretch_over (pos r.begin) (pos r.end)) lawful of_claim xs course same fits shown)
