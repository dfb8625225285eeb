-- A number of nanoseconds as whole ticks of 2^-32 second, rounded down if the number is a bound
-- that is to be kept, and up if it is an allowance that is granted.
use Rattle.std.specs.Prelude.{ℕ, ◌*◌}
use Rattle.era_unfold.specs.Ratio.{floor_of, ceiling_of}
use Rattle.era_unfold.specs.Window.{ticks_per_second}

-- how many nanoseconds one second has
abbrev pub nanoseconds_per_second : ℕ
nanoseconds_per_second = 1000000000

-- the most whole ticks that are not longer than n nanoseconds
unfoldable pub ticks_down : ℕ → ℕ
ticks_down n = floor_of (n * ticks_per_second) nanoseconds_per_second

-- the fewest whole ticks that are not shorter than n nanoseconds
unfoldable pub ticks_up : ℕ → ℕ
ticks_up n = ceiling_of (n * ticks_per_second) nanoseconds_per_second
