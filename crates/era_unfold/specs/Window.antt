-- The window of a capture's record.
--
-- A tick is 2^-32 second, the resolution of a 64-bit NTP timestamp (RFC 5905, section 6). Unix
-- ticks count from 1970-01-01T00:00:00Z.
--
-- A record of a savefile says when its packet was captured as whole seconds since 1970 and a
-- sub-second field, which counts microseconds or nanoseconds. So the clock read some moment at or
-- after that number of units and before the next one. The window of the record is the least range
-- of whole ticks that holds both: from the floor of the exact moment to the ceiling of the exact
-- moment of the next unit. It is rounded outwards at both ends, so that the moment never falls out
-- of it.
use Rattle.std.specs.Prelude.{ℕ, ◌+◌, ◌*◌, ◌^◌}
use Rattle.era_unfold.specs.Ratio.{floor_of, ceiling_of}
use Rattle.era_unfold.specs.declared.unit.Unit.{Unit as SubsecondUnit}
use Rattle.era_unfold.specs.declared.unit.Unit.TheVariants.{Micro, Nano}

-- how many ticks one second has
abbrev pub ticks_per_second : ℕ
ticks_per_second = 2 ^ 32

-- how many units of the sub-second field one second has
abbrev pub per_second : SubsecondUnit → ℕ
per_second Micro = 1000000
per_second Nano = 1000000000

-- the first tick of the window of a record at these seconds and units
unfoldable pub window_low : SubsecondUnit → ℕ → ℕ → ℕ
window_low unit sec sub =
    floor_of ((sec * per_second unit + sub) * ticks_per_second) (per_second unit)

-- the last tick of that window
unfoldable pub window_high : SubsecondUnit → ℕ → ℕ → ℕ
window_high unit sec sub =
    ceiling_of ((sec * per_second unit + sub + 1) * ticks_per_second) (per_second unit)
