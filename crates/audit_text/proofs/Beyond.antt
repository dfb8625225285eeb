-- An error beyond a bound in ticks is one beyond it in whole nanoseconds, rounded up.
use Rattle.std.proofs.Common.{◌<◌, ◌*◌, ◌↔◌, ℕ, ℤ, IsTrue, unsigned_abs, arith}
use Rattle.era_unfold.specs.Ratio.{IsCeiling, IsFloor}
use Rattle.era_unfold.specs.Nanoseconds.{ticks_down, nanoseconds_per_second}
use Rattle.era_unfold.specs.Window.{ticks_per_second}
use Rattle.line_writer.specs.Millisecond.{longer}
use Rattle.era_unfold.proofs.NanosecondTicks.{IsFloor-ticks_down}
use Rattle.era_unfold.proofs.Rounding.{IsCeiling-ceiling_of}
use Rattle.audit_text.specs.Excess.{is_beyond}

module _ (n t : ℕ) where
  down : IsFloor (n * ticks_per_second) nanoseconds_per_second (ticks_down n)
  down = IsFloor-ticks_down n

  up : IsCeiling (t * nanoseconds_per_second) ticks_per_second (longer t)
  up = IsCeiling-ceiling_of (t * nanoseconds_per_second) ticks_per_second (omega arith)

  shown_beyond : ticks_down n < t → n < longer t
  shown_beyond h = grind (arith, down.greatest t, up.not_below)

  beyond_in_ticks : n < longer t → ticks_down n < t
  beyond_in_ticks h = grind (arith, up.least n, down.not_above)

pub beyond_as_shown : (bound_ns : ℕ) (error : ℤ) →
    ticks_down bound_ns < unsigned_abs error ↔ IsTrue (is_beyond bound_ns error)
beyond_as_shown bound_ns error = grind (arith, longer, shown_beyond, beyond_in_ticks)
