-- Moments of the client's clock, and how its error drifts.
--
-- Moments needn't fall on whole ticks. Their times and readings are whole numbers of 1/n tick, for
-- a fineness n, and a number of ticks is multiplied by n before it is compared with one.
use Rattle.std.specs.Prelude.{ℕ, ◌-◌, ◌*◌, ◌≤◌, ℤ, pos, ◌+ℤ◌, ◌-ℤ◌, ◌*ℤ◌, ◌≤ℤ◌, unsigned_abs}
use Rattle.sample_interval.specs.Widening.{billion}

-- the true time of a moment, and what the client's clock reads then
pub record Moment : Type 0 where
  pub time : ℤ
  pub reading : ℤ

-- the error is reading less true time
abbrev pub error_of : Moment → ℤ
error_of moment = moment.reading -ℤ moment.time

-- how much the error changes from one moment to another
abbrev pub error_change : Moment → Moment → ℕ
error_change a b = unsigned_abs (error_of b -ℤ error_of a)

-- the error changes by at most ppb parts in 10^9 of the true time between two moments
abbrev pub DriftsWithin : ℕ → Moment → Moment → Type 0
DriftsWithin ppb a b = (billion * error_change a b) ≤ (ppb * unsigned_abs (b.time -ℤ a.time))

-- what that says about the readings: at most ppb parts in 10^9 - ppb of the clock's own advance
abbrev pub DriftsWithinByReading : ℕ → Moment → Moment → Type 0
DriftsWithinByReading ppb a b =
    ((billion - ppb) * error_change a b) ≤ (ppb * unsigned_abs (b.reading -ℤ a.reading))

-- the error is at least so many ticks, and as much more as the clock reads beyond a start
abbrev pub IsOffAtLeast : ℕ → ℤ → ℤ → Moment → Type 0
IsOffAtLeast n error start moment =
    ((error *ℤ pos n) +ℤ (moment.reading -ℤ (start *ℤ pos n))) ≤ℤ error_of moment

-- the error is at most so many ticks, and as much less as the clock reads short of an end
abbrev pub IsOffAtMost : ℕ → ℤ → ℤ → Moment → Type 0
IsOffAtMost n error end moment =
    error_of moment ≤ℤ ((error *ℤ pos n) -ℤ ((end *ℤ pos n) -ℤ moment.reading))

-- a reading lies in a window of whole ticks
abbrev pub IsInWindow : ℕ → ℤ → ℤ → ℤ → Type 0
IsInWindow n start end reading = ((start *ℤ pos n) ≤ℤ reading) × (reading ≤ℤ (end *ℤ pos n))

-- a true time is no further from a timestamp than a distance
abbrev pub IsWithinDistance : ℕ → ℤ → ℤ → ℤ → Type 0
IsWithinDistance n stamp distance time =
    pos (unsigned_abs (time -ℤ (stamp *ℤ pos n))) ≤ℤ (distance *ℤ pos n)
