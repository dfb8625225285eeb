-- A tick of 2^-32 s of the Unix epoch as a date and a time of day in UTC, at a whole nanosecond:
-- the last that isn't after the tick, or the first that isn't before it.
use Rattle.std.specs.Prelude.{ℕ, zero, suc, ◌/◌, ◌%◌, ◌^◌, nat_lt, if◌then◌else◌, ℤ, pos, negsuc, List, [], ◌++◌, codes}
use Rattle.std.specs.Fmt.{signed_decimal}
use Rattle.era_unfold.specs.Nanoseconds.{nanoseconds_per_second}
use Rattle.line_writer.specs.Date.{clock_text}
use Rattle.line_writer.specs.Millisecond.{shorter, longer}
use Rattle.line_writer.specs.Text.{zero_padded}

-- a part of a second in nanoseconds: nine decimals, or none if there is no part
abbrev pub part_text : ℕ → List ℕ
part_text zero = []
part_text (suc n) = codes "." ++ zero_padded 9 (suc n)

-- the whole seconds of a nanosecond of the Unix epoch, and its part of a second
abbrev pub second_of : ℕ → ℕ
second_of n = n / nanoseconds_per_second

abbrev pub part_of : ℕ → ℕ
part_of n = n % nanoseconds_per_second

-- a nanosecond of the Unix epoch
abbrev pub moment_text : ℕ → List ℕ
moment_text n = clock_text (second_of n) ++ part_text (part_of n) ++ codes "Z"

-- a tick that is to be shown as this nanosecond, if its second has 32 bits: else the tick's number
abbrev pub moment_or_tick : ℕ → ℕ → List ℕ
moment_or_tick tick n =
    if nat_lt (second_of n) (2 ^ 32) then moment_text n else signed_decimal (pos tick)

-- a tick by the nanosecond at or below it, and by the one at or above it; one before the Unix epoch
-- as its number
abbrev pub moment_below : ℤ → List ℕ
moment_below (pos tick) = moment_or_tick tick (shorter tick)
moment_below (negsuc n) = signed_decimal (negsuc n)

abbrev pub moment_above : ℤ → List ℕ
moment_above (pos tick) = moment_or_tick tick (longer tick)
moment_above (negsuc n) = signed_decimal (negsuc n)
