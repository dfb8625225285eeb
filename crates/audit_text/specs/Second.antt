-- Ticks as Unix seconds.
use Rattle.std.specs.Prelude.{ℕ, ℤ, ◌/◌, unsigned_abs}
use Rattle.era_unfold.specs.Window.{ticks_per_second}

-- the Unix second of a tick of 2^-32 s since 1970
abbrev pub second_of : ℤ → ℕ
second_of tick = unsigned_abs tick / ticks_per_second
