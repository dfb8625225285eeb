-- How far the error can change while the clock advances by a distance.
--
-- The clock drifts by at most ppb parts in 10^9 of true time. Measured by the clock itself, true
-- time has advanced by as much as 10^9 / (10^9 - ppb) of the distance, and so the error has changed
-- by ppb / (10^9 - ppb) of it at most. The widening is the least whole number of ticks that is not
-- below that.
use Rattle.std.specs.Prelude.{ℕ, ◌-◌, ◌*◌, ◌≤◌}
use Rattle.era_unfold.specs.Ratio.{IsCeiling, ceiling_of}

-- a rate is counted in parts of this number
abbrev pub billion : ℕ
billion = 1000000000

-- a rate of drift that a claim may have: at most half
abbrev pub IsRate : ℕ → Type 0
IsRate ppb = ppb ≤ 500000000

-- w is the least whole number with w * (10^9 - ppb) not below ppb * distance
abbrev pub IsWidening : ℕ → ℕ → ℕ → Type 0
IsWidening ppb distance w = IsCeiling (ppb * distance) (billion - ppb) w

-- that number
unfoldable pub widening : ℕ → ℕ → ℕ
widening ppb distance = ceiling_of (ppb * distance) (billion - ppb)
