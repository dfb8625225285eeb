-- What it is for a moment of the client to keep a mark.
--
-- A low mark says that when the clock read its place, its error was at least the mark's. True time
-- is reading less error, so by true time the place came no later than the mark's place less its
-- error. A moment keeps the mark if it is at the place or after it by the clock, and yet no later
-- than that by true time. A high mark says the same the other way about.
--
-- Moments are whole numbers of 1/n tick, and marks whole ticks.
use Rattle.std.specs.Prelude.{ℕ, ℤ, pos, ◌-ℤ◌, ◌*ℤ◌, ◌≤ℤ◌}
use Rattle.feasibility.specs.Common.{Mark, Moment}

-- the true time that a mark speaks of: its place less its error
abbrev pub time_of : Mark → ℤ
time_of mark = mark.place -ℤ mark.error

-- the clock has reached the mark's place, at a true time no later than the mark's
abbrev pub KeepsLow : ℕ → Mark → Moment → Type 0
KeepsLow n mark moment =
    ((mark.place *ℤ pos n) ≤ℤ moment.reading) × (moment.time ≤ℤ (time_of mark *ℤ pos n))

-- the clock isn't past the mark's place, at a true time no earlier than the mark's
abbrev pub KeepsHigh : ℕ → Mark → Moment → Type 0
KeepsHigh n mark moment =
    (moment.reading ≤ℤ (mark.place *ℤ pos n)) × ((time_of mark *ℤ pos n) ≤ℤ moment.time)
