-- The window of a record.
use Rattle.std.proofs.Common.{◌≡◌, ℕ, ◌+◌, ◌-◌, ◌*◌, ◌/◌, ◌<◌, ◌≤◌, add_assoc, ap, ◌∙◌, arith}
use Rattle.era_unfold.specs.Ratio.{IsFloor, IsCeiling, floor_of, ceiling_of}
use Rattle.era_unfold.specs.declared.unit.Unit.{Unit as SubsecondUnit}
use Rattle.era_unfold.specs.declared.unit.Unit.TheVariants.{Micro, Nano}
use Rattle.era_unfold.specs.Window.{per_second, ticks_per_second, window_low, window_high}
use Rattle.era_unfold.proofs.Rounding.{IsFloor-floor_of, IsCeiling-ceiling_of, div-whole_and_part, div-whole_and_part_up, le_of_products, lt_of_products}

pub per_second_above_zero : (unit : SubsecondUnit) → 0 < per_second unit
per_second_above_zero Micro = omega arith
per_second_above_zero Nano = omega arith

-- the seconds and the part of a second, apart
pub window_low-parts : (unit : SubsecondUnit) (sec sub : ℕ)
    → window_low unit sec sub ≡ sec * ticks_per_second + sub * ticks_per_second / per_second unit
unfolding window_low floor_of
window_low-parts unit sec sub =
    div-whole_and_part sec sub (per_second unit) ticks_per_second (per_second_above_zero unit)

pub window_high-parts : (unit : SubsecondUnit) (sec sub : ℕ)
    → window_high unit sec sub ≡ sec * ticks_per_second + ((sub + 1) * ticks_per_second + (per_second unit - 1)) /
    per_second unit
unfolding window_high ceiling_of
window_high-parts unit sec sub =
    let d = per_second unit in
    ap (λ x. (x * ticks_per_second + (d - 1)) / d) (add_assoc (sec * d) sub 1)
    ∙ div-whole_and_part_up sec (sub + 1) d ticks_per_second (per_second_above_zero unit)

-- the window is rounded outwards, as little as can be
pub IsFloor-window_low : (unit : SubsecondUnit) (sec sub : ℕ)
    → IsFloor ((sec * per_second unit + sub) * ticks_per_second) (per_second unit) (window_low unit sec sub)
unfolding window_low
IsFloor-window_low unit sec sub =
    IsFloor-floor_of ((sec * per_second unit + sub) * ticks_per_second) (per_second unit)
    (per_second_above_zero unit)

pub IsCeiling-window_high : (unit : SubsecondUnit) (sec sub : ℕ)
    → IsCeiling ((sec * per_second unit + sub + 1) * ticks_per_second) (per_second unit)
    (window_high unit sec sub)
unfolding window_high
IsCeiling-window_high unit sec sub =
    IsCeiling-ceiling_of ((sec * per_second unit + sub + 1) * ticks_per_second) (per_second unit)
    (per_second_above_zero unit)

-- a window lies inside its second
pub window_low-from_second : (unit : SubsecondUnit) (sec sub : ℕ) → sec * ticks_per_second ≤ window_low unit sec sub
window_low-from_second unit sec sub =
    (IsFloor-window_low unit sec sub).greatest (sec * ticks_per_second) (omega arith)

pub window_high-to_second : (unit : SubsecondUnit) (sec sub : ℕ) → sub < per_second unit
    → window_high unit sec sub ≤ (sec + 1) * ticks_per_second
window_high-to_second unit sec sub h =
    (IsCeiling-window_high unit sec sub).least ((sec + 1) * ticks_per_second) (omega arith)

pub window_low-lt-window_high : (unit : SubsecondUnit) (sec sub : ℕ)
    → window_low unit sec sub < window_high unit sec sub
window_low-lt-window_high unit sec sub =
    let d = per_second unit in
    let first = IsFloor-window_low unit sec sub in
    let last = IsCeiling-window_high unit sec sub in
    lt_of_products (window_low unit sec sub) (window_high unit sec sub) d
    (omega (arith, first.not_above, last.not_below))

-- windows follow one another with no gap
pub window_low-next_unit : (unit : SubsecondUnit) (sec sub : ℕ)
    → window_low unit sec (sub + 1) ≤ window_high unit sec sub
window_low-next_unit unit sec sub =
    let next = IsFloor-window_low unit sec (sub + 1) in
    let last = IsCeiling-window_high unit sec sub in
    le_of_products (window_low unit sec (sub + 1)) (window_high unit sec sub) (per_second unit)
    (per_second_above_zero unit) (omega (arith, next.not_above, last.not_below))

pub window_high-last_unit : (unit : SubsecondUnit) (sec : ℕ)
    → window_high unit sec (per_second unit - 1) ≡ window_low unit (sec + 1) 0
window_high-last_unit unit sec =
    let d = per_second unit in
    let some = per_second_above_zero unit in
    let whole = (sec + 1) * ticks_per_second in
    let last = IsCeiling-window_high unit sec (d - 1) in
    let first = IsFloor-window_low unit (sec + 1) 0 in
    let a : window_high unit sec (d - 1) ≤ whole = window_high-to_second unit sec (d - 1) (omega arith) in
    let b : whole ≤ window_low unit (sec + 1) 0 = window_low-from_second unit (sec + 1) 0 in
    let ones : sec * d + (d - 1) + 1 ≡ (sec + 1) * d = omega arith in
    let e : window_low unit (sec + 1) 0 * d ≤ window_high unit sec (d - 1) * d =
    omega (arith, ones, last.not_below, first.not_above) in
    let f = le_of_products (window_low unit (sec + 1) 0) (window_high unit sec (d - 1)) d some e in
    omega arith

pub ruleset no_gap = (window_low-next_unit, window_high-last_unit)

pub ruleset within_second = (window_low-from_second, window_low-lt-window_high, window_high-to_second)
