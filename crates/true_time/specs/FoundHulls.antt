-- The hulls of readings that were found before their lines are written.
use Rattle.std.specs.Prelude.{◌≡◌, ℕ, List, Option, Some, slice_get}
use Rattle.reading_time.specs.declared.reading.Reading.{Reading}
use Rattle.true_time.specs.Common.{Bounded, ClaimData, Empty, Hull, ReadingData, Sample, Unbounded, reading_data}
use Rattle.true_time.specs.TrueTime.{hull_of}
use Rattle.true_time.specs.declared.found_hulls.SmallHull.{SmallHull}
use Rattle.true_time.specs.declared.found_hulls.SmallHull.TheVariants as small

-- the same hull
abbrev pub widened : SmallHull → Hull
widened small.Unbounded = Unbounded
widened small.Empty = Empty
widened (small.Bounded lo hi) = Bounded lo hi

-- if a hull stands in the place with this number, it is that of the reading
abbrev pub IsHullAt : List Sample → ClaimData → List (Option SmallHull) → ℕ → ReadingData → Type 0
IsHullAt samples claim hulls number r =
    (hull : SmallHull) → slice_get hulls number ≡ Some (Some hull)
    → widened hull ≡ hull_of samples claim r

-- so it is in each place, of the reading with the same number
abbrev pub AreHullsOf : List Sample → ClaimData → List Reading → List (Option SmallHull) → Type 0
AreHullsOf samples claim readings hulls =
    (number : ℕ) (reading : Reading) → slice_get readings number ≡ Some reading
    → IsHullAt samples claim hulls number (reading_data reading)
