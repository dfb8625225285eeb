-- Nanoseconds in ticks.
use Rattle.std.proofs.Common.{ℕ, ◌*◌, ◌≤◌, arith}
use Rattle.era_unfold.specs.Ratio.{IsFloor, IsCeiling}
use Rattle.era_unfold.specs.Window.{ticks_per_second}
use Rattle.era_unfold.specs.Nanoseconds.{ticks_down, ticks_up, nanoseconds_per_second}
use Rattle.era_unfold.proofs.Rounding.{IsFloor-floor_of, IsCeiling-ceiling_of}

pub IsFloor-ticks_down : (n : ℕ) → IsFloor (n * ticks_per_second) nanoseconds_per_second (ticks_down n)
unfolding ticks_down
IsFloor-ticks_down n = IsFloor-floor_of (n * ticks_per_second) nanoseconds_per_second (omega arith)

pub IsCeiling-ticks_up : (n : ℕ) → IsCeiling (n * ticks_per_second) nanoseconds_per_second (ticks_up n)
unfolding ticks_up
IsCeiling-ticks_up n = IsCeiling-ceiling_of (n * ticks_per_second) nanoseconds_per_second (omega arith)

-- more nanoseconds have no fewer ticks
pub ticks_down-mono : (m n : ℕ) → m ≤ n → ticks_down m ≤ ticks_down n
ticks_down-mono m n h =
    (IsFloor-ticks_down n).greatest (ticks_down m) (omega (arith, (IsFloor-ticks_down m).not_above))

pub ticks_up-mono : (m n : ℕ) → m ≤ n → ticks_up m ≤ ticks_up n
ticks_up-mono m n h =
    (IsCeiling-ticks_up m).least (ticks_up n) (omega (arith, (IsCeiling-ticks_up n).not_below))

pub ruleset no_fewer_ticks = (ticks_down-mono, ticks_up-mono)
