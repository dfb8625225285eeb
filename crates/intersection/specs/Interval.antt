-- Closed intervals of whole points, and which points they leave out.
--
-- An interval bounds a number from below and from above, and both ends belong to it. One whose low
-- end is above its high end has no point, and leaves every point out.
use Rattle.std.specs.Prelude.{ℤ, ◌<ℤ◌, ◌⊎◌, Bool, int_lt, ◌||◌}
use Rattle.intersection.specs.declared.kinds.Interval.{Interval}

-- a point is left out by an interval that it lies below or above
abbrev pub LeavesOut : Interval → ℤ → Type 0
LeavesOut interval point = (point <ℤ interval.lo) ⊎ (interval.hi <ℤ point)

-- the same as a test, for counting
abbrev pub leaves_out : Interval → ℤ → Bool
leaves_out interval point = int_lt point interval.lo || int_lt interval.hi point
