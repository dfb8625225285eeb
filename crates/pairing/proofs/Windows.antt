-- Windows as they are held.
use Rattle.pairing.proofs.Common.{ℕ, ◌+◌, ◌<◌, ◌≤◌, ◌≡◌, ap, arith, pos, window_low, window_high, RecordHead, high_of, Unit as SubsecondUnit}
use Rattle.era_unfold.specs.Ratio.{floor_of, ceiling_of}
use Rattle.pairing.specs.CompactWindow.{tick_of, width_of}
use Rattle.era_unfold.specs.declared.unit.Unit.TheVariants.{Micro, Nano}

-- it ends less than 2^16 ticks after its first tick: a microsecond has 4,295 ticks
pub window_high-near : (unit : SubsecondUnit) (sec sub : ℕ) →
    window_high unit sec sub < window_low unit sec sub + 65536
unfolding window_low window_high floor_of ceiling_of
window_high-near Micro sec sub = omega arith
window_high-near Nano sec sub = omega arith

-- it doesn't end before its first tick
window_low-le-window_high : (unit : SubsecondUnit) (sec sub : ℕ) →
    window_low unit sec sub ≤ window_high unit sec sub
unfolding window_low window_high floor_of ceiling_of
window_low-le-window_high Micro sec sub = omega arith
window_low-le-window_high Nano sec sub = omega arith

-- the first tick and the width give the last tick
pub last_tick : (head : RecordHead) → pos (tick_of head + width_of head) ≡ high_of head
last_tick head =
    let forward = window_low-le-window_high head.unit head.sec head.sub in
    let last : tick_of head + width_of head ≡ window_high head.unit head.sec head.sub = omega (arith, forward) in
    ap pos last
