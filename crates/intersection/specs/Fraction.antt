-- Fractions against whole ends.
--
-- A clock's error needn't be a whole number of ticks. Here it is e/n, a whole number over a
-- positive one, and the definitions multiply by n instead of dividing.
use Rattle.std.specs.Prelude.{ℕ, ◌≤◌, ℤ, pos, ◌*ℤ◌, ◌<ℤ◌, ◌≤ℤ◌, ◌⊎◌, Bool, int_lt, ◌||◌, List, count_by, ⊤}
pub use Rattle.era_unfold.specs.Ratio.{IsSignedFloor as IsFloor, IsSignedCeiling as IsCeiling}
use Rattle.intersection.specs.declared.kinds.Interval.{Interval}
use Rattle.intersection.specs.declared.kinds.Hull.{Hull}
use Rattle.intersection.specs.declared.kinds.Hull.TheVariants.{Unbounded, Empty, Bounded}

-- e/n lies in the interval
abbrev pub HoldsFraction : Interval → ℤ → ℕ → Type 0
HoldsFraction interval e n = ((interval.lo *ℤ pos n) ≤ℤ e) × (e ≤ℤ (interval.hi *ℤ pos n))

-- e/n is left out by an interval that it lies below or above
abbrev pub LeavesFractionOut : Interval → ℤ → ℕ → Type 0
LeavesFractionOut interval e n = (e <ℤ (interval.lo *ℤ pos n)) ⊎ ((interval.hi *ℤ pos n) <ℤ e)

-- the same as a test, for counting
abbrev pub leaves_fraction_out : Interval → ℤ → ℕ → Bool
leaves_fraction_out interval e n =
    int_lt e (interval.lo *ℤ pos n) || int_lt (interval.hi *ℤ pos n) e

-- at most f intervals leave e/n out
abbrev pub IsAdmissibleFraction : List Interval → ℕ → ℤ → ℕ → Type 0
IsAdmissibleFraction list f e n = count_by (λ interval. leaves_fraction_out interval e n) list ≤ f

-- e/n lies in the hull
abbrev pub HullHoldsFraction : Hull → ℤ → ℕ → Type 0
HullHoldsFraction Unbounded e n = ⊤
HullHoldsFraction Empty e n = ⊥
HullHoldsFraction (Bounded lo hi) e n = ((lo *ℤ pos n) ≤ℤ e) × (e ≤ℤ (hi *ℤ pos n))
