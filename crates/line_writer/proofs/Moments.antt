-- Ticks of the Unix epoch as moments, at whole nanoseconds.
use Rattle.line_writer.proofs.Common.{◌≡◌, ℕ, pos, true, ◌+◌, ◌*◌, ◌^◌, ◌<◌, nat_lt, arith, nat_tests, IsFloor, IsCeiling, floor_of, ceiling_of, IsFloor-floor_of, IsCeiling-ceiling_of, shorter, longer, moment_above, moment_below, part_of, SaysMoment}
use Rattle.era_unfold.specs.Window.{per_second, window_low}
use Rattle.era_unfold.specs.declared.unit.Unit.{Unit as SubsecondUnit}
use Rattle.era_unfold.specs.declared.unit.Unit.TheVariants.{Micro, Nano}
use Rattle.line_writer.specs.Moment.{second_of}
use Rattle.line_writer.proofs.Readback.{moment_back}

pub below : (tick : ℕ) → second_of (shorter tick) < 2 ^ 32 →
    SaysMoment (moment_below (pos tick)) (second_of (shorter tick)) (part_of (shorter tick))
    × IsFloor (tick * 1000000000) (2 ^ 32) (shorter tick)
below tick h =
    let test : nat_lt (second_of (shorter tick)) (2 ^ 32) ≡ true = grind (arith, nat_tests) in
    (rw test (moment_back (shorter tick) h), IsFloor-floor_of (tick * 1000000000) (2 ^ 32) (omega arith))

pub above : (tick : ℕ) → second_of (longer tick) < 2 ^ 32 →
    SaysMoment (moment_above (pos tick)) (second_of (longer tick)) (part_of (longer tick))
    × IsCeiling (tick * 1000000000) (2 ^ 32) (longer tick)
above tick h =
    let test : nat_lt (second_of (longer tick)) (2 ^ 32) ≡ true = grind (arith, nat_tests) in
    (rw test (moment_back (longer tick) h), IsCeiling-ceiling_of (tick * 1000000000) (2 ^ 32) (omega arith))

-- the time of a record in units, back from the first tick of its window
pub record_time : (unit : SubsecondUnit) (sec sub : ℕ) →
    longer (window_low unit sec sub) * per_second unit ≡ (sec * per_second unit + sub) * 1000000000
unfolding window_low floor_of ceiling_of
record_time Micro sec sub = omega arith
record_time Nano sec sub = omega arith
