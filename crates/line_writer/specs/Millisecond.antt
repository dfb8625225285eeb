-- Ticks of 2^-32 s as milliseconds with six decimals. The low end of a range is rounded down and
-- its high end up, each to a whole nanosecond, so that the range that is shown holds the range.
use Rattle.std.specs.Prelude.{ℕ, suc, ◌*◌, ◌/◌, ◌%◌, ℤ, pos, negsuc, neg_ℤ, List, ◌++◌, codes}
use Rattle.std.specs.Fmt.{decimal}
use Rattle.era_unfold.specs.Nanoseconds.{nanoseconds_per_second}
use Rattle.era_unfold.specs.Ratio.{floor_of, ceiling_of}
use Rattle.era_unfold.specs.Window.{ticks_per_second}
use Rattle.line_writer.specs.Text.{zero_padded}

-- a length in whole nanoseconds that isn't longer than so many ticks, and one that isn't shorter
abbrev pub shorter : ℕ → ℕ
shorter ticks = floor_of (ticks * nanoseconds_per_second) ticks_per_second

abbrev pub longer : ℕ → ℕ
longer ticks = ceiling_of (ticks * nanoseconds_per_second) ticks_per_second

-- the last whole nanosecond that isn't after a tick, and the first that isn't before it
abbrev pub nanosecond_below : ℤ → ℤ
nanosecond_below (pos n) = pos (shorter n)
nanosecond_below (negsuc n) = neg_ℤ (pos (longer (suc n)))

abbrev pub nanosecond_above : ℤ → ℤ
nanosecond_above (pos n) = pos (longer n)
nanosecond_above (negsuc n) = neg_ℤ (pos (shorter (suc n)))

-- how many nanoseconds a millisecond has
abbrev pub nanoseconds_per_millisecond : ℕ
nanoseconds_per_millisecond = 1000000

-- nanoseconds as milliseconds, exactly
abbrev pub milliseconds : ℕ → List ℕ
milliseconds n =
    decimal (n / nanoseconds_per_millisecond) ++ codes "." ++
    zero_padded 6 (n % nanoseconds_per_millisecond)

-- the same of a number that may be below zero
abbrev pub signed_milliseconds : ℤ → List ℕ
signed_milliseconds (pos n) = milliseconds n
signed_milliseconds (negsuc n) = codes "-" ++ milliseconds (suc n)
